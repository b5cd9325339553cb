-- The variables of the clauses so far are marked.
use Rattle.learn_solver.proofs.DecisionLemmas.{IsMarkingAll}
use Rattle.learn_solver.proofs.decision.mark_all.Given as goal

abbrev pub invariant-loop-id : goal.invariant-loop-id
invariant-loop-id l = IsMarkingAll l.fn.marked l.marked l.clauses.clauses l.id
