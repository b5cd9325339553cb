use Rattle.vector_bans.specs.Differences.{AreAssignedInputs}
use Rattle.vector_bans.proofs.suspicion.suspected_pairs.Given as goal

abbrev pub invariant-loop-other : goal.invariant-loop-other
invariant-loop-other l = AreAssignedInputs l.assigned l.pairs.items
