-- The claims of the inputs so far were added.
use Rattle.std.proofs.Common.{[], ◌<◌, length}
use Rattle.sim_signature.specs.Sightings.{Added, IsHunted, first_of}
use Rattle.sim_signature.proofs.claims.claims.Given as goal

abbrev pub invariant-loop-i : goal.invariant-loop-i
invariant-loop-i l = Added (length l.hunted) (λ shape. IsHunted l.hunted shape × (first_of shape < l.i)) [] l.shapes.items
