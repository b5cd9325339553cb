-- Values as bytes that stand one after the other.
use Rattle.std.specs.Prelude.{◌≡◌, ℕ, ◌<◌, ◌^◌, List, ◌++◌, length, All}
use Rattle.std.specs.Int.{bytes_high_first}
use Rattle.std.specs.List.{flat_map}

-- a number's lowest n bytes, the highest of these first: network byte order (RFC 1700, data notations)
abbrev pub number_bytes : ℕ → ℕ → List ℕ
number_bytes n number = bytes_high_first n number

-- a value and then another
abbrev pub both_bytes : {A B : Type 0} → (A → List ℕ) → (B → List ℕ) → A × B → List ℕ
both_bytes {A} {B} first second both = first both.0 ++ second both.1

-- two values can be written where each of them can
abbrev pub BothFit : {A B : Type 0} → (A → Type 0) → (B → Type 0) → A × B → Type 0
BothFit {A} {B} First Second both = First both.0 × Second both.1

-- a list: how many values it has, in eight bytes, and then these
abbrev pub list_bytes : {X : Type 0} → (X → List ℕ) → List X → List ℕ
list_bytes {X} bytes xs = number_bytes 8 (length xs) ++ flat_map bytes xs

-- a list can be written where each value can, and their number has 64 bits
pub record ListFits {X : Type 0} (Fits : X → Type 0) (xs : List X) : Type 0 where
  pub count : length xs < 2 ^ 64
  pub each : All Fits xs

-- Values are a prefix code: no bytes begin with those of two of them.
pub record IsPrefixCode {X : Type 0} (bytes : X → List ℕ) (Fits : X → Type 0) : Type 0 where
  pub one : (x y : X) (after other : List ℕ) → Fits x → Fits y → bytes x ++ after ≡ bytes y ++ other → x ≡ y

-- bytes begin with those of a value, and these are left
pub record BeginsWith {X : Type 0} (bytes : X → List ℕ) (Fits : X → Type 0) (text : List ℕ) (x : X) (left : List ℕ) : Type 0 where
  pub fits : Fits x
  pub text_is : text ≡ bytes x ++ left

-- bytes begin with those of no value
pub record BeginsNone {X : Type 0} (bytes : X → List ℕ) (Fits : X → Type 0) (text : List ℕ) : Type 0 where
  pub none : (x : X) (left : List ℕ) → BeginsWith bytes Fits text x left → ⊥

-- bytes begin with those of these values, one after the other, and these are left
pub record HasItems {X : Type 0} (bytes : X → List ℕ) (Fits : X → Type 0) (text : List ℕ) (items : List X) (left : List ℕ) : Type 0 where
  pub each : All Fits items
  pub text_is : text ≡ flat_map bytes items ++ left
