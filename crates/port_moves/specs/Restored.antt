-- Two netlists whose ports at each place are the same (combinational equivalence, as in any textbook of logic design).
use Rattle.std.specs.Prelude.{◌≡◌, Bool, List, length}
use Rattle.circuits.specs.Circuits.{Circuit, FitsCircuit, circuit_outputs}
use Rattle.circuits.specs.Netlists.{Net, function_of}

-- as many inputs and outputs, and the same bits of the outputs on each vector
pub record AreEqual (one other : Net) : Type 0 where
  pub inputs : other.inputs ≡ one.inputs
  pub outputs : length other.outputs ≡ length one.outputs
  pub functions : (x : List Bool) → length x ≡ one.inputs → function_of other x ≡ function_of one x

-- the same, said of circuits with definitions in any order: under the valuations that meet all definitions of either at
-- once
pub record ComputeTheSame (one other : Circuit) : Type 0 where
  pub inputs : other.inputs ≡ one.inputs
  pub outputs : length other.outputs ≡ length one.outputs
  pub functions : (x v w : List Bool) → length x ≡ one.inputs
      → FitsCircuit one x v
      → FitsCircuit other x w
      → circuit_outputs other w ≡ circuit_outputs one v
