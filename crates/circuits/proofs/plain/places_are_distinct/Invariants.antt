-- The entries so far go to different places.
use Rattle.std.proofs.Common.{ℕ, Bool, ◌<◌, ◌≢◌, get_or}
use Rattle.circuits.proofs.plain.places_are_distinct.Given as goal

abbrev pub invariant-loop-i : goal.invariant-loop-i
invariant-loop-i l =
    (j k : ℕ) (d : ℕ × Bool) → j < k → k < l.i → (get_or l.entries j d).0 ≢ (get_or l.entries k d).0
