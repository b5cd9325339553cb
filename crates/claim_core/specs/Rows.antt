-- The rows of a report: of each output the inputs of its support, with their unateness, and the pairs of these inputs
-- that are symmetric or skew symmetric (this project's own form).
use Rattle.std.specs.Prelude.{◌≡◌, ◌⊎◌, ℕ, ◌<◌, ◌≤◌, Bool, List, length, All, AllPairs, Any}
use Rattle.circuits.specs.Circuits.{Circuit, FitsCircuit, circuit_outputs}
use Rattle.circuits.specs.Literals.{EachAt, bit}
use Rattle.circuits.specs.Netlists.{Net}
use Rattle.claim_core.specs.Claims.{output_bit}
use Rattle.claim_core.specs.declared.info.OutputInfo.{OutputInfo}
use Rattle.claim_core.specs.declared.info.Unate.{Unate}
use Rattle.claim_core.specs.declared.info.Unate.TheVariants.{Positive, Negative, Binate}
use Rattle.claim_core.specs.declared.info.Sym.{Sym}
use Rattle.claim_core.specs.declared.info.Sym.TheVariants.{Symmetric, Skew, Both}
use Rattle.claim_core.specs.Facts.{InSupport, IsPositive, IsNegative, IsBinate, IsSymmetric, IsSkew}

-- how a function is unate in an input of its support, or that it isn't
abbrev pub IsUnate : ℕ → (List Bool → Bool) → ℕ → Unate → Type 0
IsUnate n f i Positive = IsPositive n f i
IsUnate n f i Negative = IsNegative n f i
IsUnate n f i Binate = IsBinate n f i

-- in which of the two ways two inputs may be exchanged
abbrev pub IsSym : ℕ → (List Bool → Bool) → ℕ → ℕ → Sym → Type 0
IsSym n f i j Symmetric = IsSymmetric n f i j × (IsSkew n f i j → ⊥)
IsSym n f i j Skew = (IsSymmetric n f i j → ⊥) × IsSkew n f i j
IsSym n f i j Both = IsSymmetric n f i j × IsSkew n f i j

-- An input of the support, with its unateness.
pub record IsEntry (n : ℕ) (f : List Bool → Bool) (entry : ℕ × Unate) : Type 0 where
  pub there : entry.0 < n
  pub inside : InSupport n f entry.0
  pub unate : IsUnate n f entry.0 entry.1

-- The entries are the inputs of the support from `start` on and below `end`, ascending.
pub record ListsSupport (n : ℕ) (f : List Bool → Bool) (start end : ℕ) (entries : List (ℕ × Unate)) : Type 0 where
  pub right : All (IsEntry n f) entries
  pub within : All (λ entry. (start ≤ entry.0) × (entry.0 < end)) entries
  pub ascending : AllPairs (λ one other. one.0 < other.0) entries
  pub whole : (i : ℕ) → start ≤ i → i < end → InSupport n f i → Any (λ entry. entry.0 ≡ i) entries

-- Two inputs of the support, the lesser one first, with the ways in which they may be exchanged.
pub record IsPair (n : ℕ) (f : List Bool → Bool) (pair : ℕ × ℕ × Sym) : Type 0 where
  pub order : pair.0 < pair.1
  pub there : pair.1 < n
  pub first : InSupport n f pair.0
  pub second : InSupport n f pair.1
  pub sym : IsSym n f pair.0 pair.1 pair.2

-- inputs a and b stand before i and j: by their first input, and then by the second
abbrev pub IsBefore : ℕ → ℕ → ℕ → ℕ → Type 0
IsBefore a b i j = (a < i) ⊎ ((a ≡ i) × (b < j))

-- The entries are the pairs of inputs of the support that may be exchanged, those before i and j, in this order.
pub record ListsPairs (n : ℕ) (f : List Bool → Bool) (i j : ℕ) (pairs : List (ℕ × ℕ × Sym)) : Type 0 where
  pub right : All (IsPair n f) pairs
  pub below : All (λ pair. IsBefore pair.0 pair.1 i j) pairs
  pub ascending : AllPairs (λ one other. IsBefore one.0 one.1 other.0 other.1) pairs
  pub whole : (a b : ℕ) → IsBefore a b i j
      → a < b → b < n
      → InSupport n f a → InSupport n f b
      → IsSymmetric n f a b ⊎ IsSkew n f a b
      → Any (λ pair. (pair.0 ≡ a) × (pair.1 ≡ b)) pairs

-- A row of a function of n bits: its support, and all pairs of it.
pub record IsRow (n : ℕ) (f : List Bool → Bool) (row : OutputInfo) : Type 0 where
  pub support : ListsSupport n f 0 n row.support
  pub pairs : ListsPairs n f n 0 row.pairs

-- A row for each output of a netlist in order.
pub record AreRows (net : Net) (rows : List OutputInfo) : Type 0 where
  pub outputs : length rows ≡ length net.outputs
  pub each : EachAt (λ k row. IsRow net.inputs (output_bit net k) row) rows

-- the function has output k's bit under each valuation that meets all definitions at once
abbrev pub IsFunctionOf : Circuit → ℕ → (List Bool → Bool) → Type 0
IsFunctionOf circuit k f = (x v : List Bool) → length x ≡ circuit.inputs
    → FitsCircuit circuit x v
    → f x ≡ bit (circuit_outputs circuit v) k

-- A row of what an output of a circuit computes.
pub record IsRowOf (circuit : Circuit) (k : ℕ) (row : OutputInfo) : Type 0 where
  pub function : List Bool → Bool
  pub computed : IsFunctionOf circuit k function
  pub is : IsRow circuit.inputs function row

-- A row for each output of a circuit, definitions in any order.
pub record AreRowsOf (circuit : Circuit) (rows : List OutputInfo) : Type 0 where
  pub outputs : length rows ≡ length circuit.outputs
  pub each : EachAt (IsRowOf circuit) rows
