-- Assigned pairs are added one after the other.
use Rattle.std.proofs.Common.{All, Contains, subst}
use Rattle.std.proofs.lemmas.List.{take_all}
use Rattle.std.proofs.lemmas.List.Elements.{All-nil}
use Rattle.pair_search.proofs.ConflictLemmas.{adding_more}
use Rattle.pair_search.proofs.conflict_set.add_all.Goals as goal

pub loop-pair-init : goal.loop-pair-init
loop-pair-init c = record { part = c.requires.part; among = All-nil (Contains c.args.needed.now.items) }

pub loop-pair-preserved : goal.loop-pair-preserved
loop-pair-preserved c =
    adding_more c.args.assigned.now c.loop-pair.needed.items c.add_assigned.new.needed.items c.args.pairs.now c.loop-pair.pair-index _ c.loop-pair-test.true c.loop-pair.invariant c.in_ok-add_assigned.ensures.adds.part c.in_ok-add_assigned.ensures.adds.stays c.in_ok-add_assigned.ensures.added

pub returns-clause-among : goal.returns-clause-among
returns-clause-among c =
    subst (All (Contains c.loop-pair.needed.items)) (take_all c.loop-pair.pair-index c.args.pairs.now c.loop-pair-test.false) c.loop-pair.invariant.among
