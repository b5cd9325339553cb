-- How far the lines of a file are read, and what is known of them then (AIGER 1.9).
use Rattle.std.specs.Prelude.{◌≡◌, ℕ, ◌+◌, ◌*◌, ◌%◌, ◌<◌, ◌≤◌, min, Bool, IsTrue, List, [], ◌∷◌, ◌++◌, length, map, drop, All, Contains, Option, Some}
use Rattle.std.specs.Prelude.{slice_index_or, if◌then◌else◌}
use Rattle.std.specs.Option.{option_map}
use Rattle.text_core.specs.Piece.{Piece}
use Rattle.text_core.specs.Lines.{lines, after_line}
use Rattle.net_file.specs.declared.fault.NetKind.{NetKind}
use Rattle.net_file.specs.declared.fault.NetKind.TheVariants as kind
use Rattle.net_file.specs.declared.fault.NetStop.{NetStop}
use Rattle.net_file.specs.Stops.{IsStopBy}
use Rattle.aiger_reader.specs.declared.body.AndLine.{AndLine}
use Rattle.aiger_reader.specs.declared.body.Body.{Body}
use Rattle.aiger_reader.specs.declared.body.Literals.{Literals}
use Rattle.aiger_reader.specs.declared.limits.Header.{Header}
use Rattle.aiger_reader.specs.Words.{numbers_on}
use Rattle.aiger_reader.specs.Headers.{AigerHeader}
use Rattle.aiger_reader.specs.Numbers.{header_of}
use Rattle.aiger_reader.specs.Bodies.{roles_of, role_at, width_of, defines, defined, body_lines, line_offset, first_of, AreGood, IsFirstFault}

-- the row of an AND line
abbrev pub row_of : AndLine → List ℕ
row_of line = line.lhs ∷ line.a ∷ line.b ∷ []

-- the rows of the lines that are read: inputs, outputs and gates
abbrev pub rows_of : Literals → List (List ℕ)
rows_of literals =
    map (λ literal. literal ∷ []) literals.inputs.items
    ++ map (λ literal. literal ∷ []) literals.outputs.items
    ++ map row_of literals.gates.items

-- how many lines of inputs there are: none in the binary form
abbrev pub input_lines_of : AigerHeader → ℕ
input_lines_of h = if h.binary then 0 else h.inputs

-- how many lines of gates there are: none in the binary form
abbrev pub gate_lines_of : AigerHeader → ℕ
gate_lines_of h = if h.binary then 0 else h.gates

-- The piece is what is left of the bytes after their first k lines.
pub record IsAtLine (bytes : List ℕ) (k : ℕ) (p : Piece) : Type 0 where
  pub left : lines p.bytes ≡ drop k (lines bytes)
  pub rest : p.bytes ≡ drop p.at bytes
  pub offset : p.at ≡ min (line_offset bytes k) (length bytes)

-- The signal of a variable is its place among those that are defined, counted from 1, and 0 where it isn't one.
pub record IsNumbering (greatest : ℕ) (variables signals : List ℕ) : Type 0 where
  pub entries : length signals ≡ greatest + 1
  pub places : (k : ℕ) → k < length variables → slice_index_or signals (slice_index_or variables k 0) 0 ≡ k + 1
  pub others : (v : ℕ) → 0 < slice_index_or signals v 0 → Contains variables v

-- The rows are those of good lines, the first of the body; the piece is what is left after them, and the signals and
-- the count are of the variables that they define.
pub record IsReading (bytes : List ℕ) (h : AigerHeader) (rows : List (List ℕ)) (rest : Piece) (signals : List ℕ)
    (count : ℕ) : Type 0 where
  pub good : AreGood h (body_lines bytes) rows
  pub left : IsAtLine bytes (length rows + 1) rest
  pub numbered : IsNumbering h.variables (defined (roles_of h) rows) signals
  pub counted : count ≡ length (defined (roles_of h) rows)

-- what is read of the body, whose header has properties or none
abbrev pub IsBodyReading : List ℕ → Header → Body → Type 0
IsBodyReading bytes header body =
    IsReading bytes (header_of header []) (rows_of body.literals) body.rest body.signals.items body.count

-- One more line is announced, with n words, and it defines a variable or doesn't.
pub record IsNextLine (h : AigerHeader) (rows : List (List ℕ)) (width : ℕ) (defining : Bool) : Type 0 where
  pub announced : length rows < length (roles_of h)
  pub wide : width_of (role_at h (length rows)) ≡ width
  pub role : defines (role_at h (length rows)) ≡ defining

-- n lines of each role are read
pub record HasCounts (literals : Literals) (inputs outputs gates : ℕ) : Type 0 where
  pub inputs_read : length literals.inputs.items ≡ inputs
  pub outputs_read : length literals.outputs.items ≡ outputs
  pub gates_read : length literals.gates.items ≡ gates

-- why the body isn't read: its first fault, or no memory
abbrev pub IsStop : List ℕ → AigerHeader → NetStop → Type 0
IsStop bytes h = IsStopBy (IsFirstFault bytes h)

-- the first line of what is left
abbrev pub next_line_of : Piece → List ℕ
next_line_of p = slice_index_or (lines p.bytes) 0 []

-- the numbers on a line, with `limit` for each that is greater
abbrev pub capped_on : ℕ → List ℕ → List (Option ℕ)
capped_on limit line = map (option_map (λ n. min n limit)) (numbers_on line)

-- The line writes the row, whose literals are in range, and the first one plain if it is defined.
pub record IsRowOn (line : List ℕ) (greatest : ℕ) (defining : Bool) (row : List ℕ) : Type 0 where
  pub written : numbers_on line ≡ map Some row
  pub in_range : All (λ literal. literal ≤ greatest) row
  pub plain : IsTrue defining → (first_of row % 2 ≡ 0) × (2 ≤ first_of row)

-- The next line is there, at this offset, and writes this row; that is left after it.
pub record IsLineRead (p : Piece) (greatest : ℕ) (defining : Bool) (row : List ℕ) (rest : Piece) (at : ℕ) : Type 0 where
  pub there : 0 < length p.bytes
  pub on : IsRowOn (next_line_of p) greatest defining row
  pub moved : rest ≡ after_line p
  pub offset : at ≡ p.at

-- what is wrong with a line of n words
abbrev pub IsRowFault : List ℕ → ℕ → Bool → ℕ → NetKind → Type 0
IsRowFault line greatest defining width kind.BadLine =
    (row : List ℕ) → length row ≡ width → numbers_on line ≡ map Some row → ⊥
IsRowFault line greatest defining width kind.BadLiteral =
    (row : List ℕ) × (length row ≡ width) × (numbers_on line ≡ map Some row) × (IsRowOn line greatest defining row → ⊥)
IsRowFault line greatest defining width other = ⊥

-- what is wrong with the next line, or that there is none
abbrev pub IsNextFault : Piece → ℕ → Bool → ℕ → NetKind → Type 0
IsNextFault p greatest defining width kind.Truncated = lines p.bytes ≡ []
IsNextFault p greatest defining width fault =
    (0 < length p.bytes) × IsRowFault (next_line_of p) greatest defining width fault

-- The next line of the body writes this row, and the piece is what is left after it.
pub record IsRowRead (bytes : List ℕ) (h : AigerHeader) (rows : List (List ℕ)) (defining : Bool) (row : List ℕ)
    (rest : Piece) : Type 0 where
  pub there : length rows < length (body_lines bytes)
  pub on : IsRowOn (slice_index_or (body_lines bytes) (length rows) []) (2 * h.variables + 1) defining row
  pub left : IsAtLine bytes (length rows + 1 + 1) rest
