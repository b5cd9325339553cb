use Rattle.learn_solver.proofs.MarkLemmas.{IsMarking}
use Rattle.learn_solver.proofs.conflict.mark.Given as goal

abbrev pub invariant-loop-literal : goal.invariant-loop-literal
invariant-loop-literal l = IsMarking l.trail l.fn.marked l.marked l.clause l.literal-index l.here
