-- When a netlist in order computes what a netlist in any order means (ANDs: the AIGER format).
use Rattle.std.specs.Prelude.{◌≡◌, Bool, List, length, map}
use Rattle.circuits.specs.declared.netlist.Gate.{Gate}
use Rattle.circuits.specs.declared.definition.Def.{Def}
use Rattle.circuits.specs.declared.definition.Def.TheVariants.{And}
use Rattle.circuits.specs.Netlists.{Net, function_of}
use Rattle.circuits.specs.Circuits.{Circuit, FitsCircuit, circuit_outputs}

-- a gate as a definition
abbrev pub gate_def : Gate → Def
gate_def gate = And gate.a gate.b

-- A netlist in order is one in any order: each gate is the AND of its two literals.
abbrev pub as_circuit : Net → Circuit
as_circuit net = record { inputs = net.inputs; defs = map gate_def net.gates; outputs = net.outputs }

-- It has the same numbers of inputs and outputs, and on each vector gives the bits that the circuit's outputs have
-- under the valuations that meet all its definitions at once.
pub record Computes (net : Net) (circuit : Circuit) : Type 0 where
  pub inputs : net.inputs ≡ circuit.inputs
  pub outputs : length net.outputs ≡ length circuit.outputs
  pub function : (x v : List Bool) → length x ≡ circuit.inputs
      → FitsCircuit circuit x v
      → function_of net x ≡ circuit_outputs circuit v
