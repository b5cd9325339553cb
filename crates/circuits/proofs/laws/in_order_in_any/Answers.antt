-- A gate as a definition names earlier signals, and has the gate's bit.
use Rattle.circuits.proofs.AsCircuit.{as_circuit-acyclic, as_circuit-closed, as_circuit-computed}
use Rattle.circuits.proofs.laws.in_order_in_any.Goals as goal

pub returns : goal.returns
returns c = record { acyclic = as_circuit-acyclic; closed = as_circuit-closed; computes = as_circuit-computed }
