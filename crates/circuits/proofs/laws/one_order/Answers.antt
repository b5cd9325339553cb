-- Two orders by level and position list the same definitions.
use Rattle.circuits.proofs.OneOrder.{one_order}
use Rattle.circuits.proofs.laws.one_order.Goals as goal

pub returns : goal.returns
returns c = one_order
