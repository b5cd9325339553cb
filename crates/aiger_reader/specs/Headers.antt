-- The first line of an AIGER file (AIGER 1.9): `aag` or `aig`, the numbers M I L O A, and at most four more, B C J F.
use Rattle.std.specs.Prelude.{◌≡◌, ℕ, ◌+◌, ◌≤◌, ◌||◌, Bool, IsTrue, List, [], ◌∷◌, length, map, take, drop, Option, None, Some, nat_lt, codes, slice_index_or}
use Rattle.std.specs.Prelude.{if◌then◌else◌}
use Rattle.std.specs.List.{list_any}
use Rattle.net_core.specs.Limits.{most_gates, most_ports, most_variables}
use Rattle.text_core.specs.Lines.{lines}
use Rattle.net_file.specs.declared.fault.NetKind.{NetKind}
use Rattle.net_file.specs.declared.fault.NetKind.TheVariants as kind
use Rattle.aiger_reader.specs.Words.{numbers_on, AreSmall}

-- What the first line of a file says.
pub record AigerHeader : Type 0 where
  -- whether the file is in the binary form
  pub binary : Bool
  -- M, the greatest variable
  pub variables : ℕ
  pub inputs : ℕ
  pub latches : ℕ
  pub outputs : ℕ
  pub gates : ℕ
  -- B, C, J and F, as far as they are given
  pub properties : List ℕ

-- M, I, L, O and A, and then B, C, J and F, in the order in which the line has them
abbrev pub header_numbers : AigerHeader → List ℕ
header_numbers h = h.variables ∷ h.inputs ∷ h.latches ∷ h.outputs ∷ h.gates ∷ h.properties

-- the bytes that a file of either form begins with
abbrev pub keyword : Bool → List ℕ
keyword binary = if binary then codes "aig " else codes "aag "

-- the first line of a file after the keyword
abbrev pub line_after : List ℕ → List ℕ
line_after bytes = slice_index_or (lines (drop 4 bytes)) 0 []

-- The line writes five to nine numbers of 32 bits: those of a header.
pub record WritesHeader (line : List ℕ) (h : AigerHeader) : Type 0 where
  pub written : numbers_on line ≡ map Some (header_numbers h)
  pub few : length h.properties ≤ 4
  pub small : AreSmall (header_numbers h)

-- The file begins with this header.
pub record HasHeader (bytes : List ℕ) (h : AigerHeader) : Type 0 where
  pub begins : take 4 bytes ≡ keyword h.binary
  pub numbers : WritesHeader (line_after bytes) h
  pub counted : h.inputs + h.latches + h.gates ≤ h.variables
  pub no_gaps : IsTrue h.binary → h.inputs + h.latches + h.gates ≡ h.variables

-- what a header asks for that isn't accepted, the first of these
abbrev pub header_fault : AigerHeader → Option NetKind
header_fault h =
    if nat_lt 0 h.latches then Some kind.Sequential
    else if list_any (nat_lt 0) h.properties then Some kind.Property
    else if nat_lt most_ports h.inputs then Some kind.TooManyInputs
    else if nat_lt most_ports h.outputs then Some kind.TooManyOutputs
    else if nat_lt most_gates h.gates || nat_lt most_variables h.variables then Some kind.TooManyGates
    else None

-- The file begins with a header that is accepted.
pub record Begins (bytes : List ℕ) (h : AigerHeader) : Type 0 where
  pub header : HasHeader bytes h
  pub accepted : header_fault h ≡ None
