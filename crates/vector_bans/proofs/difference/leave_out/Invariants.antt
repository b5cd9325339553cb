use Rattle.std.proofs.Common.{◌≤◌, length}
use Rattle.vector_bans.specs.Differences.{IsShown}
use Rattle.vector_bans.proofs.difference.leave_out.Given as goal

abbrev pub invariant-loop-left : goal.invariant-loop-left
invariant-loop-left l = IsShown l.graphs l.fn.whole.items l.fn.pair l.values l.pairs.items × l.left ≤ length l.order

abbrev pub decreases-loop-left : goal.decreases-loop-left
decreases-loop-left l = l.left
