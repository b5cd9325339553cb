-- What is missing of the ban's pairs so far.
use Rattle.std.proofs.Common.{◌↔◌, ◌∷◌, ℕ, ◌<◌, Contains, slice_index_or}
use Rattle.circuits.specs.declared.port.Pair.{Pair}
use Rattle.ban_check.specs.PairIndices.{IsAllMissing}
use Rattle.ban_check.proofs.missing.missing_of.Given as goal

abbrev pub invariant-loop-pair : goal.invariant-loop-pair
invariant-loop-pair l = (more : Pair)
    → (IsAllMissing l.missing more
    ↔ ((j : ℕ) (d : Pair) → j < l.pair-index → Contains (more ∷ l.pairs) (slice_index_or l.ban j d)))
