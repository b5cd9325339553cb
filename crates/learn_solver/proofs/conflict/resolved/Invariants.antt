use Rattle.learn_solver.proofs.ClearLemmas.{IsResolving}
use Rattle.learn_solver.proofs.conflict.resolved.Given as goal

abbrev pub invariant-loop-analysis : goal.invariant-loop-analysis
invariant-loop-analysis l = IsResolving l.clauses.clauses l.trail l.marked l.analysis

abbrev pub decreases-loop-analysis : goal.decreases-loop-analysis
decreases-loop-analysis l = l.analysis.below
