-- The gates after the first are in order too.
use Rattle.net_print.proofs.Orders.{order_of_rest}
use Rattle.net_print.proofs.aig.DeltasParts.put_next.Goals as goal

pub invariant_of-self-clause-order : goal.invariant_of-self-clause-order
invariant_of-self-clause-order c =
    let rows = c.args.self.now in order_of_rest rows.variable rows.gates.now c.in-len1-up.len_at_least rows.order
