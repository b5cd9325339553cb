-- The variables of the literals so far are marked.
use Rattle.learn_solver.proofs.DecisionLemmas.{IsMarkingClause}
use Rattle.learn_solver.proofs.decision.mark_clause.Given as goal

abbrev pub invariant-loop-literal : goal.invariant-loop-literal
invariant-loop-literal l = IsMarkingClause l.fn.marked l.marked l.clause l.literal-index
