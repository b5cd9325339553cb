use Rattle.learn_solver.specs.Searches.{AreFirst}
use Rattle.learn_solver.proofs.decision.values.Given as goal

abbrev pub invariant-loop-variable : goal.invariant-loop-variable
invariant-loop-variable l = AreFirst l.trail l.variable l.values
