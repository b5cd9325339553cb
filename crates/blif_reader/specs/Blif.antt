-- BLIF files without latches and don't-cares (Berkeley Logic Interchange Format, 1992): the netlist that a file is, or
-- its first fault.
use Rattle.std.specs.Prelude.{◌≡◌, ℕ, ◌<◌, ◌≤◌, ◌⊎◌, List, [], length, map, slice_index_or}
use Rattle.text_core.specs.Piece.{Piece}
use Rattle.circuits.specs.Circuits.{Circuit}
use Rattle.circuits.specs.Expansion.{gates_in}
use Rattle.circuits.specs.Functions.{Computes}
use Rattle.circuits.specs.Levels.{IsAcyclic, IsFirstLooped, IsOrderOf}
use Rattle.circuits.specs.Netlists.{Net}
use Rattle.net_core.specs.Limits.{most_gates}
use Rattle.net_file.specs.declared.fault.NetKind.{NetKind}
use Rattle.net_file.specs.declared.fault.NetKind.TheVariants as fault
use Rattle.blif_reader.specs.JoinedLines.{joined_lines, word_of}
use Rattle.blif_reader.specs.Names.{input_words, output_words}
use Rattle.blif_reader.specs.Faults.{AreFew, IsLineFault, IsPortLineFault, IsPortFault, IsRedefinedFault, IsUndefinedFault, IsInputsFault, IsOutputsFault}
use Rattle.blif_reader.specs.Covers.{blif_circuit, names_lines}

-- the joined lines of a file
abbrev pub blif_lines : List ℕ → List (List Piece)
blif_lines bytes = joined_lines (record { bytes = bytes; at = 0 })

-- The joined lines are this netlist, which has no cycle and no more gates than the limit, with these names of its
-- ports.
pub record AreBlif (lines : List (List Piece)) (circuit : Circuit)
    (input_names output_names : List (List ℕ)) : Type 0 where
  pub names : AreFew lines
  pub same : circuit ≡ blif_circuit lines
  pub acyclic : IsAcyclic circuit
  pub few_gates : gates_in circuit ≤ most_gates
  pub input_names_are : input_names ≡ map (λ word. word.bytes) (input_words lines)
  pub output_names_are : output_names ≡ map (λ word. word.bytes) (output_words lines)

-- The first definition on a cycle or above one, at the first word of its line.
pub record IsCycleFault (lines : List (List Piece)) (kind : NetKind) (at : ℕ) : Type 0 where
  pub names : AreFew lines
  pub is : kind ≡ fault.CoverCycle
  pub definition : ℕ
  pub why : IsFirstLooped (blif_circuit lines) definition
  pub offset : at ≡ (word_of (slice_index_or (names_lines lines) definition []) 0).at

-- More gates than the limit, at the file's end.
pub record IsGatesFault (end : ℕ) (lines : List (List Piece)) (kind : NetKind) (at : ℕ) : Type 0 where
  pub names : AreFew lines
  pub acyclic : IsAcyclic (blif_circuit lines)
  pub is : kind ≡ fault.TooManyGates
  pub many : most_gates < gates_in (blif_circuit lines)
  pub offset : at ≡ end

-- The first fault of joined lines: of a line; a kind of port without a line; names of ports, of what is defined and of
-- what is read; the numbers of ports; cycles; and the number of gates.
abbrev pub IsFaultOfLines : ℕ → List (List Piece) → NetKind → ℕ → Type 0
IsFaultOfLines end lines kind at =
    IsLineFault lines kind at
    ⊎ IsPortLineFault end lines kind at
    ⊎ IsPortFault lines kind at
    ⊎ IsRedefinedFault lines kind at
    ⊎ IsUndefinedFault lines kind at
    ⊎ IsInputsFault lines kind at
    ⊎ IsOutputsFault lines kind at
    ⊎ IsCycleFault lines kind at
    ⊎ IsGatesFault end lines kind at

-- The file is this netlist with these names.
abbrev pub IsBlif : List ℕ → Circuit → List (List ℕ) → List (List ℕ) → Type 0
IsBlif bytes circuit input_names output_names = AreBlif (blif_lines bytes) circuit input_names output_names

-- The file has this first fault at this offset.
abbrev pub IsBlifFault : List ℕ → NetKind → ℕ → Type 0
IsBlifFault bytes kind at = IsFaultOfLines (length bytes) (blif_lines bytes) kind at

-- A file was read as this graph with these names of its ports: the graph computes the netlist that the file is. Its
-- gates are taken by level, then by place, since accounts name gates by their numbers.
pub record ReadAs (bytes : List ℕ) (graph : Net) (input_names output_names : List (List ℕ)) : Type 0 where
  pub circuit : Circuit
  pub is : IsBlif bytes circuit input_names output_names
  pub computes : Computes graph circuit
  pub numbered : IsOrderOf circuit graph
