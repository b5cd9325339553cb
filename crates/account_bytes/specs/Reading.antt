-- What reading from the front of bytes gives.
use Rattle.std.specs.Prelude.{◌≡◌, ◌<◌, ℕ, List, length, [], ◌∷◌, Result, Ok, Err}
use Rattle.byte_form.specs.Codes.{BeginsWith, BeginsNone, HasItems}
use Rattle.account_bytes.specs.declared.form.FormStop.{FormStop}
use Rattle.account_bytes.specs.declared.form.FormStop.TheVariants.{Malformed, Memory}

-- the value that the bytes begin with, none where they begin with none, or memory ran out
abbrev pub Reads : {X : Type 0} → (X → List ℕ) → (X → Type 0) → List ℕ → Result X FormStop → List ℕ → Type 0
Reads {X} bytes Fits old (Ok x) new = BeginsWith bytes Fits old x new
Reads {X} bytes Fits old (Err Malformed) new = BeginsNone bytes Fits old
Reads {X} bytes Fits old (Err Memory) new = Unit {0}

-- a single byte
abbrev pub one_byte : ℕ → List ℕ
one_byte byte = byte ∷ []

-- values of one tag
abbrev pub OfTag : {X : Type 0} → (X → ℕ) → (X → Type 0) → ℕ → X → Type 0
OfTag {X} tag Fits given x = Fits x × (tag x ≡ given)

-- bytes begin with some values of a list, and not with the next of as many as there should be
pub record EndsEarly {X : Type 0} (bytes : X → List ℕ) (Fits : X → Type 0) (count : ℕ) (text : List ℕ) : Type 0 where
  pub items : List X
  pub left : List ℕ
  pub has : HasItems bytes Fits text items left
  pub fewer : length items < count
  pub none : BeginsNone bytes Fits left

-- as many values as a list has, or that the bytes don't begin with so many, or memory ran out
abbrev pub ReadsItems : {X : Type 0} → (X → List ℕ) → (X → Type 0) → ℕ → List ℕ → Result (List X) FormStop → List ℕ → Type 0
ReadsItems {X} bytes Fits count old (Ok items) new = HasItems bytes Fits old items new × (length items ≡ count)
ReadsItems {X} bytes Fits count old (Err Malformed) new = EndsEarly bytes Fits count old
ReadsItems {X} bytes Fits count old (Err Memory) new = Unit {0}
