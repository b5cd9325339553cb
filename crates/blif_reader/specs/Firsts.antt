-- The first element of a list that a test finds, where the test sees the elements before it too.
use Rattle.std.specs.Prelude.{◌≡◌, ℕ, ◌<◌, Bool, true, false, List, length, take, slice_index_or}

-- The test finds the element at this place, and none before it.
pub record IsFirst {X : Type 0} (found : List X → X → Bool) (xs : List X) (place : ℕ) : Type 0 where
  pub there : place < length xs
  pub here : (d : X) → found (take place xs) (slice_index_or xs place d) ≡ true
  pub none_before : (k : ℕ) (d : X) → k < place → found (take k xs) (slice_index_or xs k d) ≡ false

-- the test finds no element
abbrev pub NoneIs : {X : Type 0} → (List X → X → Bool) → List X → Type 0
NoneIs {X} found xs = (k : ℕ) (d : X) → k < length xs → found (take k xs) (slice_index_or xs k d) ≡ false
