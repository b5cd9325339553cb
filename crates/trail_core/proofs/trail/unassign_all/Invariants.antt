use Rattle.trail_core.specs.Places.{AreUnassigned}
use Rattle.trail_core.proofs.trail.unassign_all.Given as goal

abbrev pub invariant-loop-entry : goal.invariant-loop-entry
invariant-loop-entry l = AreUnassigned l.fn.values l.values l.dropped l.entry-index
