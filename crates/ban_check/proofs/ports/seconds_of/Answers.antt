use Rattle.ban_check.proofs.OrderLemmas.{seconds_next}
use Rattle.ban_check.proofs.ports.seconds_of.Goals as goal

pub loop-pair-preserved : goal.loop-pair-preserved
loop-pair-preserved c =
    seconds_next c.args.kind c.args.pairs.now c.loop-pair.pair-index _ c.loop-pair.ports.items c.push_second.new.ports.items c.loop-pair-test.true c.in_ok-push_second.ensures c.loop-pair.invariant
