use Rattle.std.proofs.Common.{◌≡◌, length}
use Rattle.learn_solver.proofs.conflict.implied.Given as goal

abbrev pub invariant-loop-place : goal.invariant-loop-place
invariant-loop-place l = length l.implied.items ≡ l.place
