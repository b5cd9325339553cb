-- The AND gates of the binary AIGER form (AIGER 1.9): two deltas each, numbers in groups of seven bits, lowest first.
use Rattle.std.specs.Prelude.{◌≡◌, ℕ, ◌+◌, ◌-◌, ◌*◌, ◌<◌, ◌≤◌, ◌⊎◌, List, [], ◌∷◌, ◌++◌, length, map, drop}
use Rattle.circuits.specs.declared.definition.Def.{Def}
use Rattle.circuits.specs.declared.definition.Def.TheVariants.{And}
use Rattle.circuits.specs.Circuits.{Circuit}
use Rattle.text_core.specs.Piece.{Piece}
use Rattle.net_file.specs.declared.fault.NetKind.TheVariants as kind
use Rattle.net_file.specs.declared.fault.NetStop.{NetStop}
use Rattle.net_file.specs.Stops.{IsStopBy}
use Rattle.aiger_reader.specs.Headers.{AigerHeader}
use Rattle.aiger_reader.specs.Bodies.{line_offset, first_of, lit_from}

-- The last byte of a number is below 128 and stands for itself. One from 128 on has the low seven bits, and the bytes
-- after it stand for the rest.
abbrev pub IsInGroups : List ℕ → ℕ → Type 0
IsInGroups [] n = ⊥
IsInGroups (byte ∷ []) n = (byte < 128) × (n ≡ byte)
IsInGroups (byte ∷ next ∷ bytes) n =
    (128 ≤ byte) × (high : ℕ) × (n ≡ byte - 128 + 128 * high) × IsInGroups (next ∷ bytes) high

-- The bytes begin with a number of at most n groups.
pub record BeginsGroups (most : ℕ) (bytes : List ℕ) (n : ℕ) (rest : List ℕ) : Type 0 where
  pub groups : List ℕ
  pub spelled : bytes ≡ groups ++ rest
  pub value : IsInGroups groups n
  pub short : length groups ≤ most

-- a delta has five groups at most
abbrev pub BeginsDelta : List ℕ → ℕ → List ℕ → Type 0
BeginsDelta bytes delta rest = BeginsGroups 5 bytes delta rest

-- the bytes end within a delta, or go on for more than five groups
abbrev pub BeginsNoDelta : List ℕ → Type 0
BeginsNoDelta bytes = (delta : ℕ) (rest : List ℕ) → BeginsDelta bytes delta rest → ⊥

-- The bytes begin with an operand, which lies below this literal by at least so much.
pub record BeginsOperand (least literal : ℕ) (bytes : List ℕ) (a : ℕ) (rest : List ℕ) : Type 0 where
  pub delta : ℕ
  pub read : BeginsDelta bytes delta rest
  pub above : least ≤ delta
  pub operand : a + delta ≡ literal

-- the bytes begin with a gate's first operand, which is below the gate's literal
abbrev pub BeginsFirst : ℕ → List ℕ → ℕ → List ℕ → Type 0
BeginsFirst literal bytes a rest = BeginsOperand 1 literal bytes a rest

-- the bytes begin with a gate's second operand, which is at most the first one
abbrev pub BeginsSecond : ℕ → List ℕ → ℕ → List ℕ → Type 0
BeginsSecond a bytes b rest = BeginsOperand 0 a bytes b rest

-- the bytes begin with the gates whose variables begin at `variable`
abbrev pub BeginsGates : ℕ → List ℕ → List (ℕ × ℕ) → List ℕ → Type 0
BeginsGates variable bytes [] rest = bytes ≡ rest
BeginsGates variable bytes (gate ∷ gates) rest =
    (middle after : List ℕ)
    × BeginsFirst (2 * variable) bytes gate.0 middle
    × BeginsSecond gate.0 middle gate.1 after
    × BeginsGates (variable + 1) after gates rest

-- what stands after the header's line and the outputs' lines
abbrev pub after_outputs : List ℕ → AigerHeader → List ℕ
after_outputs bytes h = drop (line_offset bytes (1 + h.outputs)) bytes

-- The gates of a file in the binary form, and what stands after them.
pub record AreGates (bytes : List ℕ) (h : AigerHeader) (gates : List (ℕ × ℕ)) (rest : List ℕ) : Type 0 where
  pub count : length gates ≡ h.gates
  pub read : BeginsGates (h.inputs + 1) (after_outputs bytes h) gates rest

-- the first delta of a pair is bad, or the second one; the offset is the file's length less what is left
abbrev pub IsBadPair : ℕ → List ℕ → ℕ → ℕ → Type 0
IsBadPair literal bytes total at =
    (((a : ℕ) (rest : List ℕ) → BeginsFirst literal bytes a rest → ⊥) × (at + length bytes ≡ total))
    ⊎ ((a : ℕ) × (middle : List ℕ)
    × BeginsFirst literal bytes a middle
    × ((b : ℕ) (rest : List ℕ) → BeginsSecond a middle b rest → ⊥)
    × (at + length middle ≡ total))

-- Fewer than `count` gates, whose variables begin at `variable`, stand at the front of the bytes, and the pair after
-- them is bad. The file ends at the offset `total`.
pub record IsPairFault (variable count : ℕ) (bytes : List ℕ) (total at : ℕ) : Type 0 where
  pub gates : List (ℕ × ℕ)
  pub rest : List ℕ
  pub fewer : length gates < count
  pub read : BeginsGates variable bytes gates rest
  pub why : IsBadPair (2 * (variable + length gates)) rest total at

-- what a stop says of these gates, whose bytes end where the file does
abbrev pub IsPairStop : ℕ → ℕ → Piece → NetStop → Type 0
IsPairStop variable count text =
    IsStopBy (λ fault at. (fault ≡ kind.Delta) × IsPairFault variable count text.bytes (text.at + length text.bytes) at)

-- The first delta that is cut off, too long or out of range, at its first byte.
abbrev pub IsDeltaFault : List ℕ → AigerHeader → ℕ → Type 0
IsDeltaFault bytes h at = IsPairFault (h.inputs + 1) h.gates (after_outputs bytes h) (length bytes) at

-- the AND of the literals with these numbers
abbrev pub and_from : ℕ × ℕ → Def
and_from gate = And (lit_from gate.0) (lit_from gate.1)

-- the netlist of the binary form
abbrev pub binary_circuit : AigerHeader → List (List ℕ) → List (ℕ × ℕ) → Circuit
binary_circuit h rows gates = record {
  inputs = h.inputs;
  defs = map and_from gates;
  outputs = map (λ row. lit_from (first_of row)) rows;
}
