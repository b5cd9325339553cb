-- Each definition adds its count of gates.
use Rattle.circuits.proofs.GateCounts.{gates_in_order}
use Rattle.circuits.proofs.laws.gates_in_order.Goals as goal

pub returns : goal.returns
returns c = gates_in_order
