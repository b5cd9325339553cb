-- An output's decided claims of one input, a row for each output (unateness and support of functions, as in textbooks
-- of logic synthesis; a match keeps both: Katebi and Markov, DATE 2010).
use Rattle.std.specs.Prelude.{◌≡◌, ◌≢◌, ℕ, ◌<◌, ◌||◌, ◌&&◌, Bool, true, false, not, if◌then◌else◌}
use Rattle.std.specs.Prelude.{List, [], ◌∷◌, All, Contains, count_by, slice_index_or}
use Rattle.std.specs.Bool.{beq}
use Rattle.std.specs.List.{flat_map}
use Rattle.circuits.specs.Literals.{EachAt}
use Rattle.circuits.specs.declared.port.Pair.{Pair}
use Rattle.circuits.specs.declared.port.PortKind.TheVariants.{Input, Output}
use Rattle.net_core.specs.declared.graphs.Side.{Side}
use Rattle.net_core.specs.declared.graphs.Side.TheVariants.{First, Second}
use Rattle.claim_core.specs.declared.claims.Shape.TheVariants.{Up, Down}
use Rattle.claim_core.specs.Images.{moved_value}
use Rattle.account_core.specs.declared.step.Ban.{Ban}
use Rattle.account_core.specs.Given.{Decided}
use Rattle.account_core.specs.Tallies.{other_side}
use Rattle.ban_book.specs.declared.input_claims.DecidedClaim.{DecidedClaim}
use Rattle.ban_book.specs.declared.input_claims.InputClaims.{InputClaims}
use Rattle.ban_book.specs.declared.tallies.Lists.{Lists}
use Rattle.ban_book.specs.declared.mismatched.Unlike.{Unlike}
use Rattle.ban_book.specs.declared.mismatches.Apart.{Apart}
use Rattle.ban_book.specs.DecidedClaims.{IsDecidedAs}
use Rattle.ban_book.specs.Listed.{tally_of}
use Rattle.ban_book.specs.Mismatched.{mismatch_of, unlike_of}

-- These are the facts of both claims of an input at an output.
pub record AreClaimsOf (facts : List Decided) (side : Side) (output input : ℕ) (claims : InputClaims) : Type 0 where
  pub up : IsDecidedAs facts (record { side = side; output = output; shape = Up input }) claims.up.holds claims.up.number
  pub down : IsDecidedAs facts (record { side = side; output = output; shape = Down input }) claims.down.holds claims.down.number

-- An output's row: entry i has the claims of input i.
pub record IsRow (facts : List Decided) (side : Side) (output : ℕ) (row : List InputClaims) : Type 0 where
  pub each : EachAt (AreClaimsOf facts side output) row

-- The rows of both outputs of a pair.
pub record AreRows (facts : List Decided) (pair : Pair) (one other : List InputClaims) : Type 0 where
  pub first : IsRow facts First pair.from one
  pub second : IsRow facts Second pair.to other

-- One of the pairs is of outputs, and it is this one.
pub record HasOneOutput (pairs : List Pair) (pair : Pair) : Type 0 where
  pub has : Contains pairs pair
  pub of_output : pair.kind ≡ Output
  pub only : All (λ other. other.kind ≡ Output → other ≡ pair) pairs

-- the decided claim for a change of the input from a value
abbrev pub decided_from : Bool → InputClaims → DecidedClaim
decided_from false claims = claims.up
decided_from true claims = claims.down

-- what stands for an input that isn't there
abbrev pub no_claims : InputClaims
no_claims = record { up = record { number = 0; holds = true }; down = record { number = 0; holds = true } }

-- what is decided of an output where this input changes from this value
abbrev pub decided_at : List InputClaims → ℕ → Bool → DecidedClaim
decided_at row input value = decided_from value (slice_index_or row input no_claims)

-- whether one of an input's claims holds (or fails), or both do
abbrev pub says_one : Bool → InputClaims → Bool
says_one holds claims = beq claims.up.holds holds || beq claims.down.holds holds

-- whether both of an input's claims hold (or fail)
abbrev pub says_both : Bool → InputClaims → Bool
says_both holds claims = beq claims.up.holds holds && beq claims.down.holds holds

-- the fact of one claim of an input that holds (or fails), if there is one
abbrev pub one_of : Bool → InputClaims → List ℕ
one_of holds claims =
    if beq claims.up.holds holds then claims.up.number ∷ []
    else (if beq claims.down.holds holds then claims.down.number ∷ [] else [])

-- the facts of both claims of an input, if both hold (or fail)
abbrev pub both_of : Bool → InputClaims → List ℕ
both_of holds claims = if says_both holds claims then claims.up.number ∷ claims.down.number ∷ [] else []

-- for one row the facts of one claim an input that holds (or fails), and for another one those of both claims that
-- don't
abbrev pub lists_by : Bool → List InputClaims → List InputClaims → Lists
lists_by holds one other = record { one = flat_map (one_of holds) one; both = flat_map (both_of (not holds)) other }

-- of the rows of two paired outputs, that of the one circuit
abbrev pub row_on : Side → List InputClaims → List InputClaims → List InputClaims
row_on First one other = one
row_on Second one other = other

-- A tally's ban of a pair: the row of one side has more inputs of which a claim holds (or fails) than the other's.
pub record IsTallyBan (pair : Pair) (one other : List InputClaims) (ban : Ban) : Type 0 where
  pub side : Side
  pub holds : Bool
  pub more : count_by (says_one holds) (row_on (other_side side) one other) < count_by (says_one holds) (row_on side one other)
  pub ban_is : ban ≡ tally_of pair holds (lists_by holds (row_on side one other) (row_on (other_side side) one other))

-- Two outputs depend on as many inputs, and are binate in as many.
pub record AreEven (one other : List InputClaims) : Type 0 where
  pub failing : count_by (says_one false) one ≡ count_by (says_one false) other
  pub holding : count_by (says_one true) one ≡ count_by (says_one true) other

-- Each claim of an input of the first circuit is decided as its image under the input's pair and the output's.
pub record AreAlike (output : Pair) (one other : List InputClaims) (input : Pair) : Type 0 where
  pub each : (value : Bool)
      → (decided_at one input.from value).holds ≡ (decided_at other input.to (moved_value output.flip input value)).holds

-- The claim for a change of an input from a value and its image are decided differently, by these facts.
pub record IsApartAt (output : Pair) (one other : List InputClaims) (input : Pair) (value : Bool) (unlike : Unlike) : Type 0 where
  pub differ : (decided_at one input.from value).holds ≢ (decided_at other input.to (moved_value output.flip input value)).holds
  pub unlike_is : unlike ≡ unlike_of (decided_at one input.from value).holds (decided_at one input.from value).number
      (decided_at other input.to (moved_value output.flip input value)).number

-- So it is for one of the input's two claims.
pub record IsApart (output : Pair) (one other : List InputClaims) (found : Apart) : Type 0 where
  pub of_input : found.input.kind ≡ Input
  pub value : Bool
  pub is : IsApartAt output one other found.input value found.unlike

-- The ban by a mismatch of an output's pair and an input's, which is one of these.
pub record IsMismatchBan (pairs : List Pair) (output : Pair) (one other : List InputClaims) (ban : Ban) : Type 0 where
  pub found : Apart
  pub among : Contains pairs found.input
  pub is : IsApart output one other found
  pub ban_is : ban ≡ mismatch_of (found.input ∷ output ∷ []) found.unlike
