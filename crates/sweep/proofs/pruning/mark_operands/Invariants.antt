-- The operands of the gates so far are marked, from the last one on.
use Rattle.std.proofs.Common.{◌≤◌, length}
use Rattle.sweep.specs.Pruning.{AreMarkedFrom}
use Rattle.sweep.proofs.pruning.mark_operands.Given as goal

abbrev pub invariant-loop-left : goal.invariant-loop-left
invariant-loop-left l = AreMarkedFrom l.graph l.left l.used × (l.left ≤ length l.graph.gates)

abbrev pub decreases-loop-left : goal.decreases-loop-left
decreases-loop-left l = l.left
