use Rattle.std.proofs.Common.{◌∷◌, All, Contains, sym, subst}
use Rattle.ban_book.specs.Covering.{Covers}
use Rattle.pair_search.specs.Named.{AreNamed}
use Rattle.pair_search.proofs.ConflictLemmas.{ban_lent, covers_lent}
use Rattle.std.proofs.lemmas.Result.{on_ok_weaker}
use Rattle.pair_search.proofs.gather.add_named.Goals as goal

pub add_others-requires-clause-among : goal.add_others-requires-clause-among
add_others-requires-clause-among c =
    let covers : Covers c.args.bans.now (c.args.way ∷ c.args.assigned.now) c.in-Ban.ban = subst (AreNamed c.args.bans.now c.args.assigned.now c.args.way) c.in-Ban.is c.requires.named in
    ban_lent c.args.bans.now (c.args.way ∷ c.args.assigned.now) c.deref.result.now c.in-Ban.ban c.index-bans-ban.result covers c.deref.ensures

pub returns-in-Ban-clause-named : goal.returns-in-Ban-clause-named
returns-in-Ban-clause-named c =
    let bans = c.args.bans.now in
    let more = c.args.way ∷ c.add_others.new.needed.items in
    let covers : Covers bans (c.args.way ∷ c.args.assigned.now) c.in-Ban.ban = subst (AreNamed bans c.args.assigned.now c.args.way) c.in-Ban.is c.requires.named in
    on_ok_weaker c.add_others.result (λ (all : All (Contains more) c.deref.result.now). subst (AreNamed bans c.add_others.new.needed.items c.args.way) (sym c.in-Ban.is) (covers_lent bans more c.deref.result.now c.in-Ban.ban c.index-bans-ban.result covers.kept c.deref.ensures all)) c.add_others.ensures.among
