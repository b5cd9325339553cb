use Rattle.std.proofs.Common.{arith}
use Rattle.ban_check.proofs.MissingLemmas.{missing_all, missing_more}
use Rattle.ban_check.proofs.missing.missing_of.Goals as goal

pub loop-pair-preserved : goal.loop-pair-preserved
loop-pair-preserved c = missing_more c.args.pairs.now c.args.ban.now c.loop-pair.pair-index _ c.loop-pair.missing c.with_next-missing.result c.loop-pair-test.true c.loop-pair.invariant c.with_next-missing.ensures

pub returns : goal.returns
returns c = missing_all c.args.pairs.now c.args.ban.now c.loop-pair.pair-index c.loop-pair.missing (omega (arith, c.loop-pair-test.false)) c.loop-pair.invariant
