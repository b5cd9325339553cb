-- What stands under a name: a netlist, the graph that accounts number, or what is no netlist.
use Rattle.std.specs.Prelude.{◌≡◌, ℕ, ◌<◌, ◌≤◌, List, length, Option, Some}
use Rattle.circuits.specs.Circuits.{Circuit}
use Rattle.circuits.specs.Levels.{IsOrderOf}
use Rattle.circuits.specs.Netlists.{Net}
use Rattle.net_core.specs.Limits.{most_bytes}
use Rattle.net_file.specs.declared.fault.NetKind.{NetKind}
use Rattle.check_steps.specs.Circuits.{IsCircuit, IsCircuitFault}

-- A netlist as its file has it, with the names of its ports.
pub record Netlist : Type 0 where
  pub circuit : Circuit
  pub input_names : List (List ℕ)
  pub output_names : List (List ℕ)

-- What stands under a name is a file of at most 67,108,864 bytes that is this netlist.
pub record HasNetlist (content : Option (List ℕ)) (netlist : Netlist) : Type 0 where
  pub bytes : List ℕ
  pub there : content ≡ Some bytes
  pub short : length bytes ≤ most_bytes
  pub is : IsCircuit bytes netlist.circuit netlist.input_names netlist.output_names

-- What stands under a name is a file of at most 67,108,864 bytes with this first fault.
pub record HasNetFault (content : Option (List ℕ)) (kind : NetKind) (at : ℕ) : Type 0 where
  pub bytes : List ℕ
  pub there : content ≡ Some bytes
  pub short : length bytes ≤ most_bytes
  pub is : IsCircuitFault bytes kind at

-- What stands under a name is a file of more than 67,108,864 bytes.
pub record HasTooMuch (content : Option (List ℕ)) : Type 0 where
  pub bytes : List ℕ
  pub there : content ≡ Some bytes
  pub long : most_bytes < length bytes

-- What stands under a name is a netlist, and this is the graph by which accounts number its gates: its definitions by
-- level, then by place, each expanded to gates.
pub record HasGraph (content : Option (List ℕ)) (graph : Net) : Type 0 where
  pub netlist : Netlist
  pub holds : HasNetlist content netlist
  pub numbered : IsOrderOf netlist.circuit graph
