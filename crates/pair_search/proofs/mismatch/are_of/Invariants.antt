use Rattle.std.proofs.Common.{[], ◌∷◌, take, All, Contains}
use Rattle.pair_search.proofs.mismatch.are_of.Given as goal

abbrev pub invariant-loop-pair : goal.invariant-loop-pair
invariant-loop-pair l = All (Contains (l.one ∷ l.other ∷ [])) (take l.pair-index l.pairs)
