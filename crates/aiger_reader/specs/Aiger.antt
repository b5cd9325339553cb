-- AIGER files without latches and properties (AIGER 1.9): the netlist that a file is, or its first fault.
use Rattle.std.specs.Prelude.{◌≡◌, ℕ, ◌+◌, ◌<◌, ◌⊎◌, Bool, true, false, List, length, drop}
use Rattle.circuits.specs.Circuits.{Circuit}
use Rattle.circuits.specs.Functions.{Computes}
use Rattle.circuits.specs.Levels.{IsOrderOf, IsFirstLooped, IsAcyclic}
use Rattle.circuits.specs.Netlists.{Net}
use Rattle.net_file.specs.declared.fault.NetKind.{NetKind}
use Rattle.net_file.specs.declared.fault.NetKind.TheVariants as kind
use Rattle.aiger_reader.specs.Headers.{AigerHeader, Begins}
use Rattle.aiger_reader.specs.Bodies.{IsBody, IsBodyFault, IsKnownRow, IsUndefined, text_circuit, line_offset}
use Rattle.aiger_reader.specs.Deltas.{AreGates, IsDeltaFault, binary_circuit}
use Rattle.aiger_reader.specs.Numbers.{IsHeaderFault}
use Rattle.aiger_reader.specs.Symbols.{AreNames, IsSymbolFault}

-- The ASCII form: its lines read only what some line defines, and give this netlist; the rest stands after them.
pub record IsText (bytes : List ℕ) (h : AigerHeader) (rows : List (List ℕ)) (circuit : Circuit) (rest : List ℕ)
    : Type 0 where
  pub known : (k : ℕ) → k < length rows → IsKnownRow h rows k
  pub same : circuit ≡ text_circuit h rows
  pub after : rest ≡ drop (line_offset bytes (1 + length rows)) bytes

-- The binary form: the deltas of all gates are good, and with the outputs' lines give this netlist.
pub record IsBinary (bytes : List ℕ) (h : AigerHeader) (rows : List (List ℕ)) (circuit : Circuit) (rest : List ℕ)
    : Type 0 where
  pub gates : List (ℕ × ℕ)
  pub read : AreGates bytes h gates rest
  pub same : circuit ≡ binary_circuit h rows gates

-- what stands after the header gives this netlist, in the ASCII form or (true) in the binary one
abbrev pub IsOfForm : Bool → List ℕ → AigerHeader → List (List ℕ) → Circuit → List ℕ → Type 0
IsOfForm false bytes h rows circuit rest = IsText bytes h rows circuit rest
IsOfForm true bytes h rows circuit rest = IsBinary bytes h rows circuit rest

-- The file up to the symbols: its header, its lines and its gates are good, and give this netlist.
pub record IsNetlist (bytes : List ℕ) (h : AigerHeader) (circuit : Circuit) (rest : List ℕ) : Type 0 where
  pub begins : Begins bytes h
  pub rows : List (List ℕ)
  pub body : IsBody bytes h rows
  pub form : IsOfForm h.binary bytes h rows circuit rest

-- The file is this netlist, which has no cycle, with these names of its ports.
pub record IsAiger (bytes : List ℕ) (circuit : Circuit) (input_names output_names : List (List ℕ)) : Type 0 where
  pub h : AigerHeader
  pub rest : List ℕ
  pub netlist : IsNetlist bytes h circuit rest
  pub acyclic : IsAcyclic circuit
  pub names : AreNames h.inputs h.outputs rest input_names output_names

-- A file was read as this graph with these names of its ports: the graph computes the netlist that the file is. Its
-- gates are taken by level, then by place, since accounts name gates by their numbers.
pub record ReadAs (bytes : List ℕ) (graph : Net) (input_names output_names : List (List ℕ)) : Type 0 where
  pub circuit : Circuit
  pub is : IsAiger bytes circuit input_names output_names
  pub computes : Computes graph circuit
  pub numbered : IsOrderOf circuit graph

-- The first fault that the file has, by the place where it is found: the header, whose faults stand at 0; the lines;
-- the gates of the binary form; variables that no line defines; cycles, at the line of the first definition without a
-- level; and symbols.
pub record IsLinesFault (bytes : List ℕ) (fault : NetKind) (at : ℕ) : Type 0 where
  pub h : AigerHeader
  pub begins : Begins bytes h
  pub why : IsBodyFault bytes h fault at

-- A delta of the binary form's gates is bad.
pub record IsGatesFault (bytes : List ℕ) (fault : NetKind) (at : ℕ) : Type 0 where
  pub h : AigerHeader
  pub begins : Begins bytes h
  pub rows : List (List ℕ)
  pub body : IsBody bytes h rows
  pub binary : h.binary ≡ true
  pub is_delta : fault ≡ kind.Delta
  pub why : IsDeltaFault bytes h at

-- A line of the ASCII form reads a variable that no line defines.
pub record IsUndefinedFault (bytes : List ℕ) (fault : NetKind) (at : ℕ) : Type 0 where
  pub h : AigerHeader
  pub begins : Begins bytes h
  pub rows : List (List ℕ)
  pub body : IsBody bytes h rows
  pub text : h.binary ≡ false
  pub is_undefined : fault ≡ kind.Undefined
  pub why : IsUndefined bytes h rows at

-- A gate's operands lead back to it, or to a gate of which that is so; the first such gate's line is told.
pub record IsCycleFault (bytes : List ℕ) (fault : NetKind) (at : ℕ) : Type 0 where
  pub h : AigerHeader
  pub circuit : Circuit
  pub rest : List ℕ
  pub netlist : IsNetlist bytes h circuit rest
  pub definition : ℕ
  pub is_cycle : fault ≡ kind.Cycle
  pub why : IsFirstLooped circuit definition
  pub offset : at ≡ line_offset bytes (1 + h.inputs + h.outputs + definition)

-- A symbol names no port, or one that has a name, or gives no name.
pub record IsNamesFault (bytes : List ℕ) (fault : NetKind) (at : ℕ) : Type 0 where
  pub h : AigerHeader
  pub circuit : Circuit
  pub rest : List ℕ
  pub base : ℕ
  pub netlist : IsNetlist bytes h circuit rest
  pub acyclic : IsAcyclic circuit
  pub is_symbol : fault ≡ kind.BadSymbol
  pub after : base + length rest ≡ length bytes
  pub why : IsSymbolFault h.inputs h.outputs base rest at

-- the fault for which the file is refused: the first one, of the header or of any other part
abbrev pub IsAigerFault : List ℕ → NetKind → ℕ → Type 0
IsAigerFault bytes fault at =
    (IsHeaderFault bytes fault × (at ≡ 0))
    ⊎ IsLinesFault bytes fault at
    ⊎ IsGatesFault bytes fault at
    ⊎ IsUndefinedFault bytes fault at
    ⊎ IsCycleFault bytes fault at
    ⊎ IsNamesFault bytes fault at
