use Rattle.ban_check.proofs.OrderLemmas.{parts_of_order}
use Rattle.ban_check.proofs.ports.are_ordered.Goals as goal

pub returns : goal.returns
returns c =
    parts_of_order c.args.pairs.now c.stand_in_turn-turn.result c.in_ok-inputs.inputs c.in_ok-outputs.outputs c.stand_in_turn-turn.ensures c.in_ok-inputs.ensures c.in_ok-outputs.ensures
