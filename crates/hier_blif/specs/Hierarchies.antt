-- Files of models: the circuit that a file is, or its first fault (Berkeley Logic Interchange Format, 1992; the order
-- of faults and the limits are this project's).
use Rattle.std.specs.Prelude.{◌≡◌, ℕ, ◌<◌, ◌≤◌, ◌⊎◌, Bool, true, List, [], length, map, All, Some, slice_index_or}
use Rattle.text_core.specs.Piece.{Piece}
use Rattle.circuits.specs.Netlists.{Net, function_of}
use Rattle.circuits.specs.Circuits.{Circuit}
use Rattle.circuits.specs.Expansion.{gates_in}
use Rattle.circuits.specs.Levels.{IsAcyclic, IsFirstLooped, IsOrderOf}
use Rattle.net_core.specs.Limits.{most_ports, most_gates}
use Rattle.blif_reader.specs.JoinedLines.{word_of}
use Rattle.blif_reader.specs.Blif.{blif_lines}
use Rattle.hier_blif.specs.declared.fault.HierFault.{HierFault}
use Rattle.hier_blif.specs.declared.fault.HierKind.TheVariants as wrong
use Rattle.hier_blif.specs.declared.model.InstanceLine.{InstanceLine}
use Rattle.hier_blif.specs.declared.model.BlifModel.{BlifModel}
use Rattle.hier_blif.specs.Models.{models_of, top_of}
use Rattle.hier_blif.specs.LineFaults.{fault_at, AreSound, IsLineFault}
use Rattle.hier_blif.specs.Names.{inputs_of, outputs_of, all_instances, model_of}
use Rattle.hier_blif.specs.NameFaults.{name_faults}
use Rattle.hier_blif.specs.Stops.{first_of}
use Rattle.hier_blif.specs.Depths.{is_within, HasDepth, IsFirstRecursive, instances_within, size_within}
use Rattle.hier_blif.specs.Nested.{OfNames, FitsNested, nested_outputs, AreSameOnNames}
use Rattle.hier_blif.specs.Flattening.{FlatCover, flat_covers, IsFlattened}

-- instances and covers of the flattened circuit, together (this project's limit)
abbrev pub most_parts : ℕ
most_parts = 8000000

-- No line is refused, and no name.
pub record AreNamed (lines : List (List Piece)) : Type 0 where
  pub sound : AreSound lines
  pub named : name_faults (models_of lines) ≡ []

-- And each instance's model has a depth: neither it nor a model in it has an instance of itself in it.
pub record AreDeep (lines : List (List Piece)) : Type 0 where
  pub named : AreNamed lines
  pub deep : All (λ line. HasDepth (models_of lines) (model_of (models_of lines) line)) (all_instances (models_of lines))

-- And the top, which is within this depth, makes no more instances and covers than the limit.
pub record AreSmall (lines : List (List Piece)) (depth : ℕ) : Type 0 where
  pub deep : AreDeep lines
  pub within : is_within (models_of lines) depth (top_of (models_of lines)) ≡ true
  pub small : size_within (models_of lines) depth (top_of (models_of lines)) ≤ most_parts

-- And it has no more ports than the limits.
pub record AreFew (lines : List (List Piece)) (depth : ℕ) : Type 0 where
  pub small : AreSmall lines depth
  pub inputs : length (inputs_of (top_of (models_of lines))) ≤ most_ports
  pub outputs : length (outputs_of (top_of (models_of lines))) ≤ most_ports

-- the covers of all instances of the top
abbrev pub covers_of_top : List (List Piece) → ℕ → List FlatCover
covers_of_top lines depth = flat_covers (models_of lines) depth (top_of (models_of lines))

-- the top, with the covers of all its instances, is this circuit
abbrev pub AreFlattened : List (List Piece) → ℕ → Circuit → Type 0
AreFlattened lines depth circuit =
    IsFlattened (models_of lines) (top_of (models_of lines)) (covers_of_top lines depth) circuit

-- The first name that is refused.
pub record IsNameFault (lines : List (List Piece)) (fault : HierFault) : Type 0 where
  pub sound : AreSound lines
  pub first : first_of (name_faults (models_of lines)) ≡ Some fault

-- The first instance whose model has no depth, at its line.
pub record IsRecursionFault (lines : List (List Piece)) (fault : HierFault) : Type 0 where
  pub named : AreNamed lines
  pub line : InstanceLine
  pub first : IsFirstRecursive (models_of lines) line
  pub is : fault ≡ record { kind = wrong.Recursion; at = line.at }

-- More instances and covers than the limit, at the file's end.
pub record IsSizeFault (end : ℕ) (lines : List (List Piece)) (fault : HierFault) : Type 0 where
  pub deep : AreDeep lines
  pub depth : ℕ
  pub within : is_within (models_of lines) depth (top_of (models_of lines)) ≡ true
  pub many : most_parts < size_within (models_of lines) depth (top_of (models_of lines))
  pub is : fault ≡ record { kind = wrong.TooBig; at = end }

-- More inputs of the top than the limit, at the first after it.
pub record IsInputsFault (lines : List (List Piece)) (fault : HierFault) : Type 0 where
  pub depth : ℕ
  pub small : AreSmall lines depth
  pub many : most_ports < length (inputs_of (top_of (models_of lines)))
  pub is : fault ≡ fault_at wrong.TooManyInputs (word_of (inputs_of (top_of (models_of lines))) most_ports)

-- No more inputs, and more outputs than the limit.
pub record IsOutputsFault (lines : List (List Piece)) (fault : HierFault) : Type 0 where
  pub depth : ℕ
  pub small : AreSmall lines depth
  pub few_inputs : length (inputs_of (top_of (models_of lines))) ≤ most_ports
  pub many : most_ports < length (outputs_of (top_of (models_of lines)))
  pub is : fault ≡ fault_at wrong.TooManyOutputs (word_of (outputs_of (top_of (models_of lines))) most_ports)

-- The first cover of an instance on a cycle or above one, at its `.names` line.
pub record IsCycleFault (lines : List (List Piece)) (fault : HierFault) : Type 0 where
  pub depth : ℕ
  pub few : AreFew lines depth
  pub circuit : Circuit
  pub flattened : AreFlattened lines depth circuit
  pub definition : ℕ
  pub why : IsFirstLooped circuit definition
  pub is : (d : FlatCover)
      → fault ≡ record { kind = wrong.Cycle; at = (slice_index_or (covers_of_top lines depth) definition d).1.at }

-- More gates than the limit, at the file's end.
pub record IsGatesFault (end : ℕ) (lines : List (List Piece)) (fault : HierFault) : Type 0 where
  pub depth : ℕ
  pub few : AreFew lines depth
  pub circuit : Circuit
  pub flattened : AreFlattened lines depth circuit
  pub acyclic : IsAcyclic circuit
  pub many : most_gates < gates_in circuit
  pub is : fault ≡ record { kind = wrong.TooManyGates; at = end }

-- The first fault of a file: of its lines; of names; of instances without a depth; of the size; of the top's ports; of
-- cycles; of the number of gates.
abbrev pub IsFaultOfLines : ℕ → List (List Piece) → HierFault → Type 0
IsFaultOfLines end lines fault =
    IsLineFault lines fault
    ⊎ IsNameFault lines fault
    ⊎ IsRecursionFault lines fault
    ⊎ IsSizeFault end lines fault
    ⊎ IsInputsFault lines fault
    ⊎ IsOutputsFault lines fault
    ⊎ IsCycleFault lines fault
    ⊎ IsGatesFault end lines fault

-- the fault for which a file of models is refused: its first one
abbrev pub IsHierFault : List ℕ → HierFault → Type 0
IsHierFault bytes fault = IsFaultOfLines (length bytes) (blif_lines bytes) fault

-- The joined lines are a circuit of models, within this depth, and are flattened to this one, which has no cycle and no
-- more gates than the limit.
pub record AreHierarchy (lines : List (List Piece)) (depth : ℕ) (circuit : Circuit) : Type 0 where
  pub few : AreFew lines depth
  pub flattened : AreFlattened lines depth circuit
  pub acyclic : IsAcyclic circuit
  pub few_gates : gates_in circuit ≤ most_gates

-- Exactly one nested valuation fits each vector, and gives the outputs that the graph computes.
pub record HasFunction (models : List BlifModel) (top : BlifModel) (graph : Net) : Type 0 where
  pub inputs : graph.inputs ≡ length (inputs_of top)
  pub some : (x : List Bool) → length x ≡ graph.inputs → (value : OfNames Bool) × FitsNested models top x value
  pub only : (x : List Bool) (one other : OfNames Bool)
      → length x ≡ graph.inputs
      → FitsNested models top x one
      → FitsNested models top x other
      → AreSameOnNames models top one other
  pub function : (x : List Bool) (value : OfNames Bool)
      → length x ≡ graph.inputs
      → FitsNested models top x value
      → function_of graph x ≡ nested_outputs top value

-- A file was read as this graph with these names of its ports, and so many models and instances. Its gates are taken by
-- level, then in the order of the flattened covers.
pub record ReadAs (bytes : List ℕ) (graph : Net) (input_names output_names : List (List ℕ))
    (models instances : ℕ) : Type 0 where
  pub depth : ℕ
  pub circuit : Circuit
  pub is : AreHierarchy (blif_lines bytes) depth circuit
  pub numbered : IsOrderOf circuit graph
  pub function : HasFunction (models_of (blif_lines bytes)) (top_of (models_of (blif_lines bytes))) graph
  pub input_names_are : input_names ≡ map (λ word. word.bytes) (inputs_of (top_of (models_of (blif_lines bytes))))
  pub output_names_are : output_names ≡ map (λ word. word.bytes) (outputs_of (top_of (models_of (blif_lines bytes))))
  pub models_are : models ≡ length (models_of (blif_lines bytes))
  pub instances_are : instances ≡ instances_within (models_of (blif_lines bytes)) depth (top_of (models_of (blif_lines bytes)))
