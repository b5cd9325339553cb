-- The leaves are as before, and there are as many as were looked at.
use Rattle.std.proofs.Common.{◌≡◌, ◌≤◌, length}
use Rattle.fact_tests.proofs.local_exchange.leaf_of.Given as goal

abbrev pub invariant-loop-number : goal.invariant-loop-number
invariant-loop-number l = (l.leaves ≡ l.fn.leaves) × (l.number ≤ length l.leaves)
