-- What an oracle is asked about an output of the first of its two circuits.
use Rattle.std.specs.Prelude.{◌≡◌, ℕ, ◌<◌, Bool, true, false, not, List, length, [], ◌∷◌, Option, None, Some, slice_index_or}
use Rattle.net_core.specs.Graph.{IsGraph}
use Rattle.net_core.specs.Sides.{Graphs}
use Rattle.query_core.specs.Ledgers.{Ledgered}
use Rattle.account_core.specs.Facts.{AreFacts}
use Rattle.oracle_core.specs.Oracles.{Known, Suits}
use Rattle.claim_core.specs.declared.claims.Shape.{Shape}
use Rattle.claim_core.specs.declared.claims.Shape.TheVariants.{Swap}
use Rattle.claim_core.specs.Claims.{output_bit}
use Rattle.claim_core.specs.declared.info.Unate.{Unate}
use Rattle.fact_tests.specs.declared.first_output.FirstOutput.{FirstOutput}
use Rattle.claim_core.specs.declared.info.Unate.TheVariants.{Positive, Negative, Binate}
use Rattle.claim_core.specs.declared.info.Sym.{Sym}
use Rattle.claim_core.specs.Facts.{InSupport, IsSymmetric, IsSkew}
use Rattle.claim_core.specs.Rows.{IsUnate, IsSym}

-- An oracle of these circuits, which may be asked in this ledger.
pub record MayAsk (graphs : Graphs) (known : Known) (ledger : Ledgered) : Type 0 where
  pub graphs_are : known.graphs ≡ graphs
  pub first : IsGraph graphs.first
  pub second : IsGraph graphs.second
  pub facts : AreFacts known.graphs known.facts
  pub suits : Suits known ledger

-- The output is there, and what is kept of the first circuit is of it.
pub record IsOutput (output : FirstOutput) : Type 0 where
  pub there : output.number < length output.graphs.now.first.outputs
  pub supports : output.supports.now ≡ output.graphs.now.first
  pub readers : output.readers.now ≡ output.graphs.now.first

-- how many inputs the first circuit has
abbrev pub inputs_in : Graphs → ℕ
inputs_in graphs = graphs.first.inputs

-- the function of output k of the first circuit
abbrev pub function_at : Graphs → ℕ → List Bool → Bool
function_at graphs k = output_bit graphs.first k

-- how many inputs an output's circuit has
abbrev pub arity : FirstOutput → ℕ
arity output = inputs_in output.graphs.now

-- the output's function
abbrev pub function : FirstOutput → List Bool → Bool
function output = function_at output.graphs.now output.number

-- how a function depends on an input: None where it doesn't
abbrev pub IsDependence : ℕ → (List Bool → Bool) → ℕ → Option Unate → Type 0
IsDependence n f i None = InSupport n f i → ⊥
IsDependence n f i (Some unate) = InSupport n f i × IsUnate n f i unate

-- in which ways two inputs may be exchanged: None where they may not
abbrev pub IsSymmetry : ℕ → (List Bool → Bool) → ℕ → ℕ → Option Sym → Type 0
IsSymmetry n f i j None = (IsSymmetric n f i j → ⊥) × (IsSkew n f i j → ⊥)
IsSymmetry n f i j (Some sym) = IsSym n f i j sym

-- the two inputs may be exchanged, as they are or each inverted
abbrev pub IsAlike : ℕ → (List Bool → Bool) → ℕ → ℕ → Bool → Type 0
IsAlike n f i j false = IsSymmetric n f i j
IsAlike n f i j true = IsSkew n f i j

-- One of the two swaps by which inputs may be exchanged, as they are or each inverted: that in which input i has this
-- value.
abbrev pub half_swap : ℕ → ℕ → Bool → Bool → Shape
half_swap i j inverted false = Swap i j false (not inverted)
half_swap i j inverted true = Swap i j true inverted

-- Whether inputs in which a function is unate in these ways may be alike: as they are, where it is unate in both in one
-- way; and each inverted, where it is unate in opposite ways. Inputs in which it is binate may be alike either way.
abbrev pub may_be_alike : Unate → Unate → Bool → Bool
may_be_alike Positive Positive inverted = not inverted
may_be_alike Positive Negative inverted = inverted
may_be_alike Positive Binate inverted = false
may_be_alike Negative Positive inverted = inverted
may_be_alike Negative Negative inverted = not inverted
may_be_alike Negative Binate inverted = false
may_be_alike Binate Positive inverted = false
may_be_alike Binate Negative inverted = false
may_be_alike Binate Binate inverted = true

-- the dependence on an input, by whether the function never falls, and whether it never rises, where the input rises
abbrev pub dependence : Bool → Bool → Option Unate
dependence true true = None
dependence true false = Some Positive
dependence false true = Some Negative
dependence false false = Some Binate

-- the entry of an input, where the function depends on it
abbrev pub entry_of : ℕ → Option Unate → List (ℕ × Unate)
entry_of i None = []
entry_of i (Some unate) = (i, unate) ∷ []

-- the entry of two inputs that may be exchanged
abbrev pub pair_of : ℕ → ℕ → Option Sym → List (ℕ × ℕ × Sym)
pair_of i j None = []
pair_of i j (Some sym) = (i, j, sym) ∷ []

-- the input at a place of the support; after the last one, the number of inputs
abbrev pub input_at : ℕ → List (ℕ × Unate) → ℕ → ℕ
input_at n entries t = (slice_index_or entries t (n, Positive)).0
