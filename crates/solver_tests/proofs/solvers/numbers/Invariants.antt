-- The numbers so far are below the count.
use Rattle.std.proofs.Common.{◌<◌, All}
use Rattle.solver_tests.proofs.solvers.numbers.Given as goal

abbrev pub invariant-loop-number : goal.invariant-loop-number
invariant-loop-number l = All (λ number. number < l.number) l.numbers.items
