use Rattle.std.proofs.Common.{◌∷◌, All, subst}
use Rattle.std.specs.Prelude.{Contains}
use Rattle.std.proofs.lemmas.List.{take_all}
use Rattle.std.proofs.lemmas.List.Elements.{All-contains_itself, All-nil}
use Rattle.ban_book.proofs.GatherLemmas.{gather_more}
use Rattle.ban_book.proofs.cover.add_others.Goals as goal

pub loop-pair-init : goal.loop-pair-init
loop-pair-init c = record {
  part = c.requires.part;
  stays = All-contains_itself c.args.needed.now.items;
  among = All-nil (Contains (c.args.way ∷ c.args.needed.now.items));
}

pub loop-pair-preserved : goal.loop-pair-preserved
loop-pair-preserved c =
    gather_more c.args.assigned.now c.args.needed.now.items c.loop-pair.needed.items c.add_unless.new.needed.items c.args.way c.args.pairs.now c.loop-pair.pair-index _ c.loop-pair-test.true c.loop-pair.invariant c.in_ok-add_unless.ensures.adds.part c.in_ok-add_unless.ensures.adds.stays c.in_ok-add_unless.ensures.added

pub returns-clause-among : goal.returns-clause-among
returns-clause-among c =
    subst (All (Contains (c.args.way ∷ c.loop-pair.needed.items))) (take_all c.loop-pair.pair-index c.args.pairs.now c.loop-pair-test.false) c.loop-pair.invariant.among
