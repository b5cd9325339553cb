-- An account as text: the one line of each record (this project's format).
use Rattle.std.specs.Prelude.{ℕ, All, Bool, List, [], ◌∷◌, ◌++◌, codes, map, Option, None, Some, if◌then◌else◌}
use Rattle.std.specs.Fmt.{decimal}
use Rattle.std.proofs.Props.{props}
use Rattle.std.specs.List.{flat_map}
use Rattle.circuits.specs.Ports.{letter_of}
use Rattle.circuits.specs.declared.port.Pair.{Pair}
use Rattle.circuits.specs.declared.port.PortKind.{PortKind}
use Rattle.circuits.specs.declared.port.PortKind.TheVariants.{Input, Output}
use Rattle.net_core.specs.declared.graphs.Side.{Side}
use Rattle.net_core.specs.declared.graphs.Side.TheVariants.{First, Second}
use Rattle.word_sim.specs.declared.tri.Tri.{Tri}
use Rattle.word_sim.specs.declared.tri.Tri.TheVariants as tri
use Rattle.cnf_core.specs.declared.log.LogLine.{LogLine}
use Rattle.claim_core.specs.declared.claims.Shape.{Shape}
use Rattle.claim_core.specs.declared.claims.Shape.TheVariants.{Up, Down, Swap}
use Rattle.claim_core.specs.declared.claims.Claim.{Claim}
use Rattle.account_core.specs.declared.conclusion.Conclusion.TheVariants.{NonePorts, NoneBan, Match}
use Rattle.account_core.specs.declared.fact.FactHead.TheVariants.{Fails, Holds}
use Rattle.account_core.specs.declared.step.Ban.{Ban}
use Rattle.account_core.specs.declared.step.Step.{Step}
use Rattle.account_core.specs.declared.step.Step.TheVariants.{Vector, Mismatch, Tally, Cover}
use Rattle.account_core.specs.declared.step.Tallied.{Tallied}
use Rattle.account_core.specs.declared.step.Tallied.TheVariants.{Support, Binate}
use Rattle.account_bytes.specs.Bodies.{IsPort, IsNumber, HasPorts, ClaimHasPorts, IsReference}
use Rattle.account_file.specs.declared.record.Record.{Record}
use Rattle.account_file.specs.declared.record.Record.TheVariants as record_of

-- `-` where the second port has the inverse of the first, else `+`
abbrev pub sign_of : Bool → ℕ
sign_of flip = if flip then 45 else 43

-- where a port goes: `i3-5`, where input 3 goes to input 5 inverted
abbrev pub pair_word : Pair → List ℕ
pair_word pair = letter_of pair.kind ∷ decimal pair.from ++ sign_of pair.flip ∷ decimal pair.to

-- `a` for the first circuit, `b` for the second
abbrev pub side_word : Side → List ℕ
side_word First = codes "a"
side_word Second = codes "b"

-- `0` or `1`
abbrev pub bit_digit : Bool → ℕ
bit_digit bit = if bit then 49 else 48

-- `0` or `1`, and `x` where it may be either
abbrev pub tri_digit : Tri → ℕ
tri_digit tri.Zero = 48
tri_digit tri.One = 49
tri_digit tri.X = 120

-- `=` and a digit for each input: `=01`
abbrev pub bits_word : List Bool → List ℕ
bits_word bits = 61 ∷ map bit_digit bits

-- the same of values that may be either: `=0x1`
abbrev pub tris_word : List Tri → List ℕ
tris_word tris = 61 ∷ map tri_digit tris

-- the inputs and values of a claim: `up 3`, `down 3`, `swap 2 5 01`
abbrev pub shape_words : Shape → List (List ℕ)
shape_words (Up i) = codes "up" ∷ decimal i ∷ []
shape_words (Down i) = codes "down" ∷ decimal i ∷ []
shape_words (Swap i j a b) = codes "swap" ∷ decimal i ∷ decimal j ∷ (bit_digit a ∷ bit_digit b ∷ []) ∷ []

-- a claim: circuit, output, shape
abbrev pub claim_words : Claim → List (List ℕ)
claim_words claim = side_word claim.side ∷ decimal claim.output ∷ shape_words claim.shape

-- what a tally counts: inputs that an output depends on, or those in which it isn't unate
abbrev pub tallied_word : Tallied → List ℕ
tallied_word Support = codes "support"
tallied_word Binate = codes "binate"

-- `in` for inputs, `out` for outputs
abbrev pub kind_word : PortKind → List ℕ
kind_word Input = codes "in"
kind_word Output = codes "out"

-- a ban's number, or `-`
abbrev pub reference_word : Option ℕ → List ℕ
reference_word (Some ban) = decimal ban
reference_word None = codes "-"

-- why no match has a ban's pairs: `vector 0 =0x`, `mismatch 4 7`, `tally support 0 3 / 5 6`,
-- `cover in 0 / 0 1 / 2 - 3 4`
abbrev pub step_words : Step → List (List ℕ)
step_words (Vector output tris) = codes "vector" ∷ decimal output ∷ tris_word tris ∷ []
step_words (Mismatch fails holds) = codes "mismatch" ∷ decimal fails ∷ decimal holds ∷ []
step_words (Tally kind have lack) =
    codes "tally" ∷ tallied_word kind ∷ map decimal have ++ codes "/" ∷ map decimal lack
step_words (Cover kind from to refs) =
    codes "cover" ∷ kind_word kind
    ∷ (map decimal from ++ codes "/" ∷ (map decimal to ++ codes "/" ∷ map reference_word refs))

-- the first word of a record's line; a drop has no line
abbrev pub first_word : Record → List ℕ
first_word record_of.Header = codes "npnp"
first_word (record_of.Fact (Fails claim bits)) = codes "fails"
first_word (record_of.Fact (Holds claim)) = codes "holds"
first_word (record_of.Line line) = codes "l"
first_word (record_of.Ban ban) = codes "ban"
first_word (record_of.Conclusion NonePorts) = codes "none"
first_word (record_of.Conclusion (NoneBan ban)) = codes "none"
first_word (record_of.Conclusion (Match pairs)) = codes "match"
first_word record_of.End = codes "end"
first_word (record_of.DropFact fact) = []
first_word (record_of.DropBan ban) = []

-- the words after it
abbrev pub other_words : Record → List (List ℕ)
other_words record_of.Header = codes "1" ∷ []
other_words (record_of.Fact (Fails claim bits)) = claim_words claim ++ bits_word bits ∷ []
other_words (record_of.Fact (Holds claim)) = claim_words claim
other_words (record_of.Line line) =
    map (λ literal. decimal literal.0) line.clause ++ codes ":" ∷ map decimal line.hints
other_words (record_of.Ban ban) = map pair_word ban.pairs ++ codes ":" ∷ step_words ban.step
other_words (record_of.Conclusion NonePorts) = codes "ports" ∷ []
other_words (record_of.Conclusion (NoneBan ban)) = codes "ban" ∷ decimal ban ∷ []
other_words (record_of.Conclusion (Match pairs)) = map pair_word pairs
other_words record_of.End = []
other_words (record_of.DropFact fact) = []
other_words (record_of.DropBan ban) = []

-- words with a blank in front of each
abbrev pub spaced : List (List ℕ) → List ℕ
spaced words = flat_map (λ word. 32 ∷ word) words

-- the line of a record: its words with one blank between two
abbrev pub line_text : Record → List ℕ
line_text entry = first_word entry ++ spaced (other_words entry)

-- and its line feed
abbrev pub record_line : Record → List ℕ
record_line entry = line_text entry ++ 10 ∷ []

-- The literals and hints of a line have 64 bits.
pub record HasNumbers (line : LogLine) : Type 0 where
  pub literals : All (λ literal. IsNumber literal.0) line.clause
  pub hints : All IsNumber line.hints

-- the ports of a step have 32 bits, and the numbers of facts and bans 64
abbrev pub StepHasNumbers : Step → Type 0
StepHasNumbers (Vector output tris) = IsPort output
StepHasNumbers (Mismatch fails holds) = IsNumber fails × IsNumber holds
StepHasNumbers (Tally kind have lack) = All IsNumber have × All IsNumber lack
StepHasNumbers (Cover kind from to refs) = All IsPort from × (All IsPort to × All IsReference refs)

-- The ports of a ban's pairs have 32 bits, and the numbers of its step have room.
pub record BanHasNumbers (ban : Ban) : Type 0 where
  pub pairs : All HasPorts ban.pairs
  pub step : StepHasNumbers ban.step

-- a record can be written as a line: it is no drop, and its numbers have room
abbrev pub IsWritable : Record → Type 0
IsWritable record_of.Header = Unit {0}
IsWritable (record_of.Fact (Fails claim bits)) = ClaimHasPorts claim
IsWritable (record_of.Fact (Holds claim)) = ClaimHasPorts claim
IsWritable (record_of.Line line) = HasNumbers line
IsWritable (record_of.Ban ban) = BanHasNumbers ban
IsWritable (record_of.Conclusion NonePorts) = Unit {0}
IsWritable (record_of.Conclusion (NoneBan ban)) = IsNumber ban
IsWritable (record_of.Conclusion (Match pairs)) = All HasPorts pairs
IsWritable record_of.End = Unit {0}
IsWritable (record_of.DropFact fact) = ⊥
IsWritable (record_of.DropBan ban) = ⊥

-- all records but drops have a line
abbrev pub HasLine : Record → Type 0
HasLine (record_of.DropFact fact) = ⊥
HasLine (record_of.DropBan ban) = ⊥
HasLine other = Unit {0}

-- that a record has a line is shown in one way at most
pub HasLine-prop : (entry : Record) → IsProp (HasLine entry)
HasLine-prop record_of.Header = Prim.hlevel props
HasLine-prop (record_of.Fact fact) = Prim.hlevel props
HasLine-prop (record_of.Line line) = Prim.hlevel props
HasLine-prop (record_of.Ban ban) = Prim.hlevel props
HasLine-prop (record_of.Conclusion conclusion) = Prim.hlevel props
HasLine-prop record_of.End = Prim.hlevel props
HasLine-prop (record_of.DropFact fact) = Prim.hlevel props
HasLine-prop (record_of.DropBan ban) = Prim.hlevel props

-- so the prover takes any two showings of it as the same
pub ruleset line_props = (props, HasLine-prop)
