-- What is known of a file between its header and its symbols (AIGER 1.9).
use Rattle.std.specs.Prelude.{◌≡◌, ℕ, ◌+◌, ◌*◌, ◌<◌, ◌≤◌, List, [], length, All}
use Rattle.text_core.specs.Piece.{Piece}
use Rattle.circuits.specs.Literals.{EachAt}
use Rattle.circuits.specs.Circuits.{Circuit}
use Rattle.aiger_reader.specs.declared.limits.Header.{Header}
use Rattle.aiger_reader.specs.declared.body.Literals.{Literals}
use Rattle.aiger_reader.specs.Headers.{Begins}
use Rattle.aiger_reader.specs.Bodies.{AreLines}
use Rattle.aiger_reader.specs.Numbers.{header_of}
use Rattle.aiger_reader.specs.Numbered.{IsSound}
use Rattle.aiger_reader.specs.Reading.{rows_of, IsAtLine}
use Rattle.aiger_reader.specs.Aiger.{IsNetlist}

-- the file begins with this header, whatever its properties
abbrev pub IsBegun : List ℕ → Header → Type 0
IsBegun bytes header = (properties : List ℕ) × Begins bytes (header_of header properties)

-- All lines after the header are read, and the piece is what is left after them.
pub record AreLinesRead (bytes : List ℕ) (header : Header) (literals : Literals) (signals : List ℕ) (rest : Piece)
    : Type 0 where
  pub body : AreLines bytes (header_of header []) (rows_of literals)
  pub sound : IsSound (header_of header []) literals signals
  pub left : IsAtLine bytes (length (rows_of literals) + 1) rest

-- the file up to the symbols is this netlist, and the rest stands after it
abbrev pub IsNetOf : List ℕ → Header → Circuit → List ℕ → Type 0
IsNetOf bytes header circuit rest = (properties : List ℕ) × IsNetlist bytes (header_of header properties) circuit rest

-- the operands of gates whose variables begin at `variable` are below the literals of these
pub record ArePairsBelow (variable : ℕ) (gates : List (ℕ × ℕ)) : Type 0 where
  pub first_operands : EachAt (λ t gate. gate.0 < 2 * (variable + t)) gates
  pub second_operands : EachAt (λ t gate. gate.1 < 2 * (variable + t)) gates

-- The outputs are literals of the variables, and the gates' operands are below them.
pub record IsBinaryBody (header : Header) (outputs : List ℕ) (gates : List (ℕ × ℕ)) : Type 0 where
  pub no_gaps : header.inputs + header.gates ≡ header.variables
  pub outputs_read : length outputs ≡ header.outputs
  pub in_range : All (λ literal. literal ≤ 2 * header.variables + 1) outputs
  pub gates_read : length gates ≡ header.gates
  pub below : ArePairsBelow (header.inputs + 1) gates
