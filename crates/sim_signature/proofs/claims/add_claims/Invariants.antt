-- The pairs so far were added.
use Rattle.std.proofs.Common.{◌≡◌, ◌<◌, length}
use Rattle.sim_signature.specs.Sightings.{Added, IsHunted, first_of, last_of}
use Rattle.sim_signature.proofs.claims.add_claims.Given as goal

abbrev pub invariant-loop-j : goal.invariant-loop-j
invariant-loop-j l = Added (length l.hunted) (λ shape. (IsHunted l.hunted shape × (first_of shape ≡ l.i)) × (last_of shape < l.j)) l.fn.shapes.items l.shapes.items
