use Rattle.learn_solver.proofs.StartLemmas.{IsPuttingLines}
use Rattle.learn_solver.proofs.search.put_lines.Given as goal

abbrev pub invariant-loop-line : goal.invariant-loop-line
invariant-loop-line l = IsPuttingLines l.fn.watches l.watches l.lines l.line-index
