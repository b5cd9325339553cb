-- Taking by levels gives an ordered netlist, which computes what is meant.
use Rattle.circuits.proofs.LevelOrders.{IsOrderOf-ordered, IsOrderOf-computes}
use Rattle.circuits.proofs.laws.computed_in_order.Goals as goal

pub returns : goal.returns
returns c = record { ordered = IsOrderOf-ordered; computes = IsOrderOf-computes }
