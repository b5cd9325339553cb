use Rattle.trail_core.specs.Places.{IsUnset}
use Rattle.trail_core.proofs.trail.unset.Given as goal

abbrev pub invariant-loop-entry : goal.invariant-loop-entry
invariant-loop-entry l = IsUnset l.fn.places l.places l.dropped l.entry-index
