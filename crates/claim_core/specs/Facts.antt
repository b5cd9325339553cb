-- Facts of a function of n bits: support, unateness and symmetry (as in textbooks of logic synthesis; "skew" is this
-- project's own word).
use Rattle.std.specs.Prelude.{◌≡◌, ◌≢◌, ℕ, Bool, true, false, not, List, length}
use Rattle.circuits.specs.Literals.{bit}
use Rattle.claim_core.specs.Claims.{with_input, NoFall}

-- two vectors that differ at input i alone give different bits
abbrev pub InSupport : ℕ → (List Bool → Bool) → ℕ → Type 0
InSupport n f i = (x : List Bool) × (length x ≡ n) × (f x ≢ f (with_input i (not (bit x i)) x))

-- no two such vectors do
abbrev pub OutsideSupport : ℕ → (List Bool → Bool) → ℕ → Type 0
OutsideSupport n f i = (x : List Bool) → length x ≡ n → f x ≡ f (with_input i (not (bit x i)) x)

-- setting the input from 0 to 1 never lowers the function's bit
abbrev pub IsPositive : ℕ → (List Bool → Bool) → ℕ → Type 0
IsPositive n f i = (x : List Bool) → length x ≡ n → NoFall (f (with_input i false x)) (f (with_input i true x))

-- setting the input from 0 to 1 never raises the function's bit
abbrev pub IsNegative : ℕ → (List Bool → Bool) → ℕ → Type 0
IsNegative n f i = (x : List Bool) → length x ≡ n → NoFall (f (with_input i true x)) (f (with_input i false x))

-- the function is neither
abbrev pub IsBinate : ℕ → (List Bool → Bool) → ℕ → Type 0
IsBinate n f i = (IsPositive n f i → ⊥) × (IsNegative n f i → ⊥)

-- the function's bit where inputs i and j have these bits
abbrev pub cofactor : (List Bool → Bool) → ℕ → Bool → ℕ → Bool → List Bool → Bool
cofactor f i a j b x = f (with_input j b (with_input i a x))

-- the two inputs may be exchanged
abbrev pub IsSymmetric : ℕ → (List Bool → Bool) → ℕ → ℕ → Type 0
IsSymmetric n f i j = (x : List Bool) → length x ≡ n → cofactor f i false j true x ≡ cofactor f i true j false x

-- the two inputs may be exchanged, each inverted
abbrev pub IsSkew : ℕ → (List Bool → Bool) → ℕ → ℕ → Type 0
IsSkew n f i j = (x : List Bool) → length x ≡ n → cofactor f i false j false x ≡ cofactor f i true j true x
