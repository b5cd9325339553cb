-- The constant stands at the front.
use Rattle.std.proofs.Common.{arith}
use Rattle.std.proofs.lemmas.List.{take_more_set}
use Rattle.std.proofs.Math.ListN.{length-set}
use Rattle.net_core.proofs.evaluating.put_inputs.Goals as goal

pub loop-i-init : goal.loop-i-init
loop-i-init g c =
    (take_more_set c.args.values.now 0 c.args.constant (omega (arith, c.requires)), length-set c.args.values.now 0 c.args.constant)
