-- The parts of an account in bytes (this project's binary format). Numbers are in network byte order: ports in four
-- bytes, all others in eight. A list is its length and then its values.
use Rattle.std.specs.Prelude.{ℕ, ◌<◌, ◌^◌, Bool, List, [], ◌∷◌, ◌++◌, Option, None, Some, if◌then◌else◌}
use Rattle.circuits.specs.declared.port.Pair.{Pair}
use Rattle.circuits.specs.declared.port.PortKind.{PortKind}
use Rattle.circuits.specs.declared.port.PortKind.TheVariants.{Input, Output}
use Rattle.net_core.specs.declared.graphs.Side.{Side}
use Rattle.net_core.specs.declared.graphs.Side.TheVariants.{First, Second}
use Rattle.word_sim.specs.declared.tri.Tri.{Tri}
use Rattle.word_sim.specs.declared.tri.Tri.TheVariants as tri
use Rattle.cnf_core.specs.declared.literal.SatLit.{SatLit}
use Rattle.cnf_core.specs.declared.log.LogLine.{LogLine}
use Rattle.claim_core.specs.declared.claims.Shape.{Shape}
use Rattle.claim_core.specs.declared.claims.Shape.TheVariants.{Up, Down, Swap}
use Rattle.claim_core.specs.declared.claims.Claim.{Claim}
use Rattle.account_core.specs.declared.step.Ban.{Ban}
use Rattle.account_core.specs.declared.step.Step.{Step}
use Rattle.account_core.specs.declared.step.Step.TheVariants.{Vector, Mismatch, Tally, Cover}
use Rattle.account_core.specs.declared.step.Tallied.{Tallied}
use Rattle.account_core.specs.declared.step.Tallied.TheVariants.{Support, Binate}
use Rattle.byte_form.specs.Codes.{ListFits, list_bytes, number_bytes}

-- true is 1, false is 0
abbrev pub bit_byte : Bool → ℕ
bit_byte bit = if bit then 1 else 0

-- 0 says that ports are inputs, 1 that they are outputs
abbrev pub kind_byte : PortKind → ℕ
kind_byte Input = 0
kind_byte Output = 1

-- 0 is the first of the two circuits, 1 the second
abbrev pub side_byte : Side → ℕ
side_byte First = 0
side_byte Second = 1

-- a value that may be either is 2
abbrev pub tri_byte : Tri → ℕ
tri_byte tri.Zero = 0
tri_byte tri.One = 1
tri_byte tri.X = 2

-- one byte for a bit of a vector, or for the sign of a pair
abbrev pub bit_bytes : Bool → List ℕ
bit_bytes bit = bit_byte bit ∷ []

-- one byte for inputs or outputs
abbrev pub kind_bytes : PortKind → List ℕ
kind_bytes kind = kind_byte kind ∷ []

-- one byte for one of the two circuits
abbrev pub side_bytes : Side → List ℕ
side_bytes side = side_byte side ∷ []

-- one byte for the value of an input that is known, or may be either
abbrev pub tri_bytes : Tri → List ℕ
tri_bytes tri = tri_byte tri ∷ []

-- four bytes for the position of an input or of an output
abbrev pub port_bytes : ℕ → List ℕ
port_bytes port = number_bytes 4 port

-- eight bytes for a literal of a clause, as its number
abbrev pub literal_bytes : SatLit → List ℕ
literal_bytes literal = number_bytes 8 literal.0

-- where a port goes: kind, first port, second port, and whether the second has the inverse of the first
abbrev pub pair_bytes : Pair → List ℕ
pair_bytes pair = kind_byte pair.kind ∷ (port_bytes pair.from ++ (port_bytes pair.to ++ bit_bytes pair.flip))

-- a ban's number after a 1, or a 0 alone
abbrev pub reference_tag : Option ℕ → ℕ
reference_tag None = 0
reference_tag (Some ban) = 1

-- the eight bytes of a ban's number, and nothing where no ban is named
abbrev pub reference_fields : Option ℕ → List ℕ
reference_fields None = []
reference_fields (Some ban) = number_bytes 8 ban

-- what excludes one way of a cover: an earlier ban, or the ban's own pairs
abbrev pub reference_bytes : Option ℕ → List ℕ
reference_bytes reference = reference_tag reference ∷ reference_fields reference

-- the inputs and values of a claim
abbrev pub shape_tag : Shape → ℕ
shape_tag (Up i) = 0
shape_tag (Down i) = 1
shape_tag (Swap i j a b) = 2

-- the inputs that a claim changes, and of a swap also their values before
abbrev pub shape_fields : Shape → List ℕ
shape_fields (Up i) = port_bytes i
shape_fields (Down i) = port_bytes i
shape_fields (Swap i j a b) = port_bytes i ++ (port_bytes j ++ (bit_bytes a ++ bit_bytes b))

-- how a claim's inputs change: one rises, one falls, or two change at once
abbrev pub shape_bytes : Shape → List ℕ
shape_bytes shape = shape_tag shape ∷ shape_fields shape

-- a claim: circuit, output, shape
abbrev pub claim_bytes : Claim → List ℕ
claim_bytes claim = side_byte claim.side ∷ (port_bytes claim.output ++ shape_bytes claim.shape)

-- a line of a log: its literals, and the numbers of the clauses that derive it
abbrev pub line_bytes : LogLine → List ℕ
line_bytes line = list_bytes literal_bytes line.clause ++ list_bytes (number_bytes 8) line.hints

-- Ports and outputs have 32 bits, all other numbers 64.
abbrev pub IsPort : ℕ → Type 0
IsPort number = number < 2 ^ 32

-- a number of a fact, a ban or a clause has 64 bits
abbrev pub IsNumber : ℕ → Type 0
IsNumber number = number < 2 ^ 64

-- what each value has
abbrev pub Always : {X : Type 0} → X → Type 0
Always {X} x = Unit {0}

-- the number of a literal has 64 bits
abbrev pub IsLiteral : SatLit → Type 0
IsLiteral literal = IsNumber literal.0

-- The positions of both ports of a pair have 32 bits.
pub record HasPorts (pair : Pair) : Type 0 where
  pub from : IsPort pair.from
  pub to : IsPort pair.to

-- the number of a ban has 64 bits, where a ban is named
abbrev pub IsReference : Option ℕ → Type 0
IsReference None = Unit {0}
IsReference (Some ban) = IsNumber ban

-- the position of each input that a claim changes has 32 bits
abbrev pub ShapeHasPorts : Shape → Type 0
ShapeHasPorts (Up i) = IsPort i
ShapeHasPorts (Down i) = IsPort i
ShapeHasPorts (Swap i j a b) = IsPort i × IsPort j

-- The positions of a claim's output and of its inputs have 32 bits.
pub record ClaimHasPorts (claim : Claim) : Type 0 where
  pub output : IsPort claim.output
  pub shape : ShapeHasPorts claim.shape

-- A line of a log can be written: its literals and its hints have 64 bits each.
pub record LineFits (line : LogLine) : Type 0 where
  pub clause : ListFits IsLiteral line.clause
  pub hints : ListFits IsNumber line.hints

-- why no match has a ban's pairs
abbrev pub tally_tag : Tallied → ℕ
tally_tag Support = 2
tally_tag Binate = 3

-- a cover of inputs, or one of outputs
abbrev pub cover_tag : PortKind → ℕ
cover_tag Input = 4
cover_tag Output = 5

-- a vector, a mismatch, or one of the two kinds of tally or of cover
abbrev pub step_tag : Step → ℕ
step_tag (Vector output tris) = 0
step_tag (Mismatch fails holds) = 1
step_tag (Tally kind have lack) = tally_tag kind
step_tag (Cover kind from to refs) = cover_tag kind

-- what a step names: an output with values of inputs, facts, or ports with the bans for their ways
abbrev pub step_fields : Step → List ℕ
step_fields (Vector output tris) = port_bytes output ++ list_bytes tri_bytes tris
step_fields (Mismatch fails holds) = number_bytes 8 fails ++ number_bytes 8 holds
step_fields (Tally kind have lack) = list_bytes (number_bytes 8) have ++ list_bytes (number_bytes 8) lack
step_fields (Cover kind from to refs) =
    list_bytes port_bytes from ++ (list_bytes port_bytes to ++ list_bytes reference_bytes refs)

-- a step: which kind it is, and what it names
abbrev pub step_bytes : Step → List ℕ
step_bytes step = step_tag step ∷ step_fields step

-- a ban: its pairs, and why no match has them
abbrev pub ban_bytes : Ban → List ℕ
ban_bytes ban = list_bytes pair_bytes ban.pairs ++ step_bytes ban.step

-- a step can be written: its ports have 32 bits, and its facts' and bans' numbers 64
abbrev pub StepFits : Step → Type 0
StepFits (Vector output tris) = IsPort output × ListFits Always tris
StepFits (Mismatch fails holds) = IsNumber fails × IsNumber holds
StepFits (Tally kind have lack) = ListFits IsNumber have × ListFits IsNumber lack
StepFits (Cover kind from to refs) = ListFits IsPort from × (ListFits IsPort to × ListFits IsReference refs)

-- A ban can be written: all ports of its pairs have 32 bits, and its step can be.
pub record BanFits (ban : Ban) : Type 0 where
  pub pairs : ListFits HasPorts ban.pairs
  pub step : StepFits ban.step
