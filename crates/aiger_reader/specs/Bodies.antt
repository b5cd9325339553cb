-- The lines after the header of an AIGER file (AIGER 1.9): inputs, outputs and AND gates of the ASCII form, whose
-- gates may stand in any order; of the binary form only the outputs.
use Rattle.std.specs.Prelude.{◌≡◌, ◌≢◌, ℕ, ◌+◌, ◌*◌, ◌/◌, ◌%◌, ◌<◌, ◌≤◌, ◌==◌, Bool, true, false, IsTrue, List, [], ◌∷◌, ◌++◌, length, map, take, drop, All}
use Rattle.std.specs.Prelude.{AllPairs, Contains, Some, slice_index_or, replicate, if◌then◌else◌}
use Rattle.std.specs.List.{position_or_len}
use Rattle.text_core.specs.Lines.{lines, text_of_lines}
use Rattle.circuits.specs.declared.netlist.Lit.{Lit}
use Rattle.circuits.specs.declared.definition.Def.{Def}
use Rattle.circuits.specs.declared.definition.Def.TheVariants.{And}
use Rattle.circuits.specs.Circuits.{Circuit}
use Rattle.net_file.specs.declared.fault.NetKind.{NetKind}
use Rattle.net_file.specs.declared.fault.NetKind.TheVariants as kind
use Rattle.aiger_reader.specs.Words.{numbers_on}
use Rattle.aiger_reader.specs.Headers.{AigerHeader}

-- what a line of the body gives
pub data Role : Type 0 where
  Input : Role
  Output : Role
  Gate : Role

-- the lines that a header announces
abbrev pub roles_of : AigerHeader → List Role
roles_of h =
    (if h.binary then [] else replicate h.inputs Input)
    ++ replicate h.outputs Output
    ++ (if h.binary then [] else replicate h.gates Gate)

-- whether line k of the body is of an input, an output or a gate
abbrev pub role_at : AigerHeader → ℕ → Role
role_at h k = slice_index_or (roles_of h) k Output

-- how many words a line has
abbrev pub width_of : Role → ℕ
width_of Input = 1
width_of Output = 1
width_of Gate = 3

-- whether a line defines a variable: the first on it
abbrev pub defines : Role → Bool
defines Input = true
defines Output = false
defines Gate = true

-- the lines after the header's
abbrev pub body_lines : List ℕ → List (List ℕ)
body_lines bytes = drop 1 (lines bytes)

-- the offset of line k of a text, of which the first is line 0
abbrev pub line_offset : List ℕ → ℕ → ℕ
line_offset bytes k = length (text_of_lines (take k (lines bytes)))

-- A line has exactly the required number of words, and they write these numbers.
pub record Writes (line : List ℕ) (role : Role) (row : List ℕ) : Type 0 where
  pub numbers : numbers_on line ≡ map Some row
  pub width : length row ≡ width_of role

-- the first number of a line: the literal that is defined, where the line defines one
abbrev pub first_of : List ℕ → ℕ
first_of row = slice_index_or row 0 0

-- Literals are of variables up to the greatest, and what is defined is a plain literal and not the constant.
pub record IsGoodRow (h : AigerHeader) (role : Role) (row : List ℕ) : Type 0 where
  pub in_range : All (λ literal. literal ≤ 2 * h.variables + 1) row
  pub plain : IsTrue (defines role) → (first_of row % 2 ≡ 0) × (2 ≤ first_of row)

-- the variables that the rows define, in their order
abbrev pub defined : List Role → List (List ℕ) → List ℕ
defined [] rows = []
defined (role ∷ roles) [] = []
defined (role ∷ roles) (row ∷ rows) = (if defines role then first_of row / 2 ∷ [] else []) ++ defined roles rows

-- The first lines of the body are good, and these are their numbers.
pub record AreGood (h : AigerHeader) (body rows : List (List ℕ)) : Type 0 where
  pub announced : length rows ≤ length (roles_of h)
  pub there : length rows ≤ length body
  pub written : (k : ℕ) → k < length rows → Writes (slice_index_or body k []) (role_at h k) (slice_index_or rows k [])
  pub good : (k : ℕ) → k < length rows → IsGoodRow h (role_at h k) (slice_index_or rows k [])
  pub distinct : AllPairs (λ one other. one ≢ other) (defined (roles_of h) rows)

-- what is wrong with the line after the good ones
pub record IsBadLine (h : AigerHeader) (body rows : List (List ℕ)) : Type 0 where
  pub there : length rows < length body
  pub unwritten : (row : List ℕ) → Writes (slice_index_or body (length rows) []) (role_at h (length rows)) row → ⊥

-- a literal is out of range, or what is defined is negated or the constant
pub record IsBadLiteral (h : AigerHeader) (body rows : List (List ℕ)) : Type 0 where
  pub row : List ℕ
  pub there : length rows < length body
  pub written : Writes (slice_index_or body (length rows) []) (role_at h (length rows)) row
  pub bad : IsGoodRow h (role_at h (length rows)) row → ⊥

-- the line defines a variable that one of the good lines defines already
pub record IsRedefined (h : AigerHeader) (body rows : List (List ℕ)) : Type 0 where
  pub row : List ℕ
  pub there : length rows < length body
  pub written : Writes (slice_index_or body (length rows) []) (role_at h (length rows)) row
  pub good : IsGoodRow h (role_at h (length rows)) row
  pub defining : IsTrue (defines (role_at h (length rows)))
  pub before : Contains (defined (roles_of h) rows) (first_of row / 2)

-- how the line after the good ones is refused, and where: at its first byte, or at the file's end where it is missing
abbrev pub IsLineFault : List ℕ → AigerHeader → List (List ℕ) → NetKind → ℕ → Type 0
IsLineFault bytes h rows kind.BadLine at =
    IsBadLine h (body_lines bytes) rows × (at ≡ line_offset bytes (length rows + 1))
IsLineFault bytes h rows kind.BadLiteral at =
    IsBadLiteral h (body_lines bytes) rows × (at ≡ line_offset bytes (length rows + 1))
IsLineFault bytes h rows kind.Redefined at =
    IsRedefined h (body_lines bytes) rows × (at ≡ line_offset bytes (length rows + 1))
IsLineFault bytes h rows kind.Truncated at = (length (body_lines bytes) ≡ length rows) × (at ≡ length bytes)
IsLineFault bytes h rows other at = ⊥

-- the header without its properties: they say nothing of the body
abbrev pub bare : AigerHeader → AigerHeader
bare h =
    record {
      binary = h.binary;
      variables = h.variables;
      inputs = h.inputs;
      latches = h.latches;
      outputs = h.outputs;
      gates = h.gates;
      properties = [];
    }

-- The first fault of the lines: the kind, and the offset in the file.
pub record IsFirstFault (bytes : List ℕ) (h : AigerHeader) (fault : NetKind) (at : ℕ) : Type 0 where
  pub rows : List (List ℕ)
  pub good : AreGood h (body_lines bytes) rows
  pub line_announced : length rows < length (roles_of h)
  pub why : IsLineFault bytes h rows fault at

-- All lines are there, and they are good.
pub record AreLines (bytes : List ℕ) (h : AigerHeader) (rows : List (List ℕ)) : Type 0 where
  pub good : AreGood h (body_lines bytes) rows
  pub whole : length rows ≡ length (roles_of h)

-- the numbers on the body's lines, which are all there and good
abbrev pub IsBody : List ℕ → AigerHeader → List (List ℕ) → Type 0
IsBody bytes h rows = AreLines bytes (bare h) rows

-- the body's first fault, and its offset
abbrev pub IsBodyFault : List ℕ → AigerHeader → NetKind → ℕ → Type 0
IsBodyFault bytes h fault at = IsFirstFault bytes (bare h) fault at

-- the variables that a line reads
abbrev pub reads : Role → List ℕ → List ℕ
reads Input row = []
reads Output row = row
reads Gate row = drop 1 row

-- a literal of the constant or of a variable that some line defines
abbrev pub IsKnown : List ℕ → ℕ → Type 0
IsKnown variables literal = (literal / 2 ≢ 0) → Contains variables (literal / 2)

-- what line k of the body reads is known
abbrev pub IsKnownRow : AigerHeader → List (List ℕ) → ℕ → Type 0
IsKnownRow h rows k = All (IsKnown (defined (roles_of h) rows)) (reads (role_at h k) (slice_index_or rows k []))

-- The first line of the body that reads what no line defines.
pub record IsUndefined (bytes : List ℕ) (h : AigerHeader) (rows : List (List ℕ)) (at : ℕ) : Type 0 where
  pub place : ℕ
  pub there : place < length rows
  pub unknown : IsKnownRow h rows place → ⊥
  pub first : (k : ℕ) → k < place → IsKnownRow h rows k
  pub offset : at ≡ line_offset bytes (place + 1)

-- the literal with this number
abbrev pub lit_from : ℕ → Lit
lit_from number = record { 0 = number }

-- the literal of the netlist for a literal of the file: the variable that is defined in place p is signal p + 1
abbrev pub literal_of : List ℕ → ℕ → Lit
literal_of variables literal =
    lit_from (2 * (if literal / 2 == 0 then 0 else 1 + position_or_len (λ v. v == literal / 2) variables) + literal % 2)

-- the definition that a gate's line gives
abbrev pub and_on : List ℕ → List ℕ → Def
and_on variables row =
    And (literal_of variables (slice_index_or row 1 0)) (literal_of variables (slice_index_or row 2 0))

-- the netlist of the ASCII form's body
abbrev pub text_circuit : AigerHeader → List (List ℕ) → Circuit
text_circuit h rows =
    let variables = defined (roles_of h) rows in
    record {
      inputs = h.inputs;
      defs = map (and_on variables) (drop (h.inputs + h.outputs) rows);
      outputs = map (λ row. literal_of variables (first_of row)) (take h.outputs (drop h.inputs rows));
    }
