-- The fields of the values that have several, and the bytes of these.
use Rattle.std.specs.Prelude.{ℕ, List, [], ◌∷◌, Bool, Option}
use Rattle.circuits.specs.declared.port.Pair.{Pair}
use Rattle.circuits.specs.declared.port.PortKind.{PortKind}
use Rattle.net_core.specs.declared.graphs.Side.{Side}
use Rattle.cnf_core.specs.declared.literal.SatLit.{SatLit}
use Rattle.cnf_core.specs.declared.log.LogLine.{LogLine}
use Rattle.claim_core.specs.declared.claims.Shape.{Shape}
use Rattle.claim_core.specs.declared.claims.Shape.TheVariants.{Swap}
use Rattle.claim_core.specs.declared.claims.Claim.{Claim}
use Rattle.account_core.specs.declared.step.Ban.{Ban}
use Rattle.account_core.specs.declared.step.Step.{Step}
use Rattle.byte_form.specs.Codes.{BothFit, ListFits, both_bytes, list_bytes, number_bytes}
use Rattle.account_bytes.specs.Bodies.{Always, HasPorts, IsLiteral, IsNumber, IsPort, IsReference, ShapeHasPorts}
use Rattle.account_bytes.specs.Bodies.{bit_bytes, kind_bytes, literal_bytes, pair_bytes, port_bytes}
use Rattle.account_bytes.specs.Bodies.{StepFits, step_bytes}
use Rattle.account_bytes.specs.Bodies.{reference_bytes, shape_bytes}
use Rattle.account_bytes.specs.Bodies.{side_bytes}

-- a value for which one byte stands
abbrev pub byte_bytes : {X : Type 0} → (X → ℕ) → X → List ℕ
byte_bytes {X} byte x = byte x ∷ []

-- a pair's fields
abbrev pub PairFields : Type 0
PairFields = PortKind × (ℕ × (ℕ × Bool))

-- kind, first port, second port and sign of a pair, in the order in which they are written
abbrev pub pair_fields : Pair → PairFields
pair_fields pair = (pair.kind, (pair.from, (pair.to, pair.flip)))

-- the pair of this kind, with these ports and this sign
abbrev pub pair_with : PairFields → Pair
pair_with fields = record { kind = fields.0; from = fields.1.0; to = fields.1.1.0; flip = fields.1.1.1 }

-- a byte for the kind, four for either port, and a byte for the sign
abbrev pub pair_fields_bytes : PairFields → List ℕ
pair_fields_bytes = both_bytes kind_bytes (both_bytes port_bytes (both_bytes port_bytes bit_bytes))

-- both positions have 32 bits
abbrev pub PairFieldsFit : PairFields → Type 0
PairFieldsFit = BothFit Always (BothFit IsPort (BothFit IsPort Always))

-- values that begin with a tag, by the fields of those of one tag
abbrev pub tagged_bytes : {X : Type 0} → (X → ℕ) → (X → List ℕ) → X → List ℕ
tagged_bytes {X} tag fields x = tag x ∷ fields x

-- the fields of a claim of two inputs
abbrev pub SwapFields : Type 0
SwapFields = ℕ × (ℕ × (Bool × Bool))

-- the change of these two inputs, from these values to the opposite ones
abbrev pub swap_with : SwapFields → Shape
swap_with fields = Swap fields.0 fields.1.0 fields.1.1.0 fields.1.1.1

-- four bytes for either input, and a byte for the value of each
abbrev pub swap_fields_bytes : SwapFields → List ℕ
swap_fields_bytes = both_bytes port_bytes (both_bytes port_bytes (both_bytes bit_bytes bit_bytes))

-- both inputs' positions have 32 bits
abbrev pub SwapFieldsFit : SwapFields → Type 0
SwapFieldsFit = BothFit IsPort (BothFit IsPort (BothFit Always Always))

-- a claim's fields
abbrev pub ClaimFields : Type 0
ClaimFields = Side × (ℕ × Shape)

-- circuit, output and change of inputs of a claim, in the order in which they are written
abbrev pub claim_fields : Claim → ClaimFields
claim_fields claim = (claim.side, (claim.output, claim.shape))

-- the claim that this output of this circuit never falls under this change
abbrev pub claim_with : ClaimFields → Claim
claim_with fields = record { side = fields.0; output = fields.1.0; shape = fields.1.1 }

-- a byte for the circuit, four for the output, and then the change of the inputs
abbrev pub claim_fields_bytes : ClaimFields → List ℕ
claim_fields_bytes = both_bytes side_bytes (both_bytes port_bytes shape_bytes)

-- the output's position has 32 bits, and each input's
abbrev pub ClaimFieldsFit : ClaimFields → Type 0
ClaimFieldsFit = BothFit Always (BothFit IsPort ShapeHasPorts)

-- a log line's fields
abbrev pub LineFields : Type 0
LineFields = List SatLit × List ℕ

-- a line's clause and its hints, in the order in which they are written
abbrev pub line_fields : LogLine → LineFields
line_fields line = (line.clause, line.hints)

-- the line that derives this clause by these hints
abbrev pub line_with : LineFields → LogLine
line_with fields = record { clause = fields.0; hints = fields.1 }

-- the literals in eight bytes each, and then the hints in eight bytes each
abbrev pub line_fields_bytes : LineFields → List ℕ
line_fields_bytes = both_bytes (list_bytes literal_bytes) (list_bytes (number_bytes 8))

-- all literals and all hints have 64 bits
abbrev pub LineFieldsFit : LineFields → Type 0
LineFieldsFit = BothFit (ListFits IsLiteral) (ListFits IsNumber)

-- the second circuit's ports of a cover, and what excludes each way to pair one with a port of the first
abbrev pub ports_and_references : List ℕ × List (Option ℕ) → List ℕ
ports_and_references = both_bytes (list_bytes port_bytes) (list_bytes reference_bytes)

-- these ports have 32 bits, and the bans' numbers 64
abbrev pub PortsAndReferencesFit : List ℕ × List (Option ℕ) → Type 0
PortsAndReferencesFit = BothFit (ListFits IsPort) (ListFits IsReference)

-- a ban's fields
abbrev pub BanParts : Type 0
BanParts = List Pair × Step

-- a ban's pairs and its step, in the order in which they are written
abbrev pub ban_fields : Ban → BanParts
ban_fields ban = (ban.pairs, ban.step)

-- the ban of these pairs that this step shows
abbrev pub ban_with : BanParts → Ban
ban_with fields = record { pairs = fields.0; step = fields.1 }

-- all pairs, and then the step that shows that no match has them
abbrev pub ban_fields_bytes : BanParts → List ℕ
ban_fields_bytes = both_bytes (list_bytes pair_bytes) step_bytes

-- the pairs can be written, and the step
abbrev pub BanFieldsFit : BanParts → Type 0
BanFieldsFit = BothFit (ListFits HasPorts) StepFits
