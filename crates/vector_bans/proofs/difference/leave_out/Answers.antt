use Rattle.std.proofs.Common.{arith}
use Rattle.vector_bans.proofs.difference.leave_out.Goals as goal

pub loop-left-preserved : goal.loop-left-preserved
loop-left-preserved c = (c.in_ok-pairs.ensures c.args.whole.items c.loop-left.invariant.0, omega (arith, c.loop-left.invariant.1))
