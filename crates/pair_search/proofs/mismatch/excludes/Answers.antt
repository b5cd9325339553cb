use Rattle.std.proofs.Common.{[], ◌∷◌}
use Rattle.pair_search.proofs.ConflictLemmas.{covers_lent}
use Rattle.pair_search.proofs.mismatch.excludes.Goals as goal

pub returns : goal.returns
returns c = λ t.
    covers_lent c.args.bans.now (c.args.one ∷ c.args.other ∷ []) c.deref.result.now c.args.number c.index-bans-number.result c.if-number-bans.false c.deref.ensures (c.are_of.ensures t)
