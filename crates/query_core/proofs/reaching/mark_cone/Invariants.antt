-- The gates so far are marked right.
use Rattle.std.proofs.Common.{◌+◌, take}
use Rattle.query_core.proofs.ReachingLemmas.{AreMarking}
use Rattle.query_core.proofs.reaching.mark_cone.Given as goal

abbrev pub invariant-loop-gate : goal.invariant-loop-gate
invariant-loop-gate l = AreMarking l.graph (take (l.graph.inputs + 1) l.fn.marked) l.gates l.gate-index l.marked
