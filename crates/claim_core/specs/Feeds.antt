-- What the inputs of a cone get, as a list, and the forms in which such a list is kept.
use Rattle.std.specs.Prelude.{ℕ, ◌==◌, Bool, true, false, List, map, slice_set, if◌then◌else◌}
use Rattle.std.specs.List.{range_with_len}
use Rattle.claim_core.specs.declared.claims.Shape.{Shape}
use Rattle.claim_core.specs.declared.claims.Shape.TheVariants.{Up, Down, Swap}
use Rattle.claim_core.specs.declared.query.Feed.{Feed}
use Rattle.claim_core.specs.declared.query.Feed.TheVariants.{Fixed, Wire}
use Rattle.claim_core.specs.declared.feeds.Form.{Form}
use Rattle.claim_core.specs.declared.feeds.Form.TheVariants.{Straight, Valued, Listed}

-- each input gets its own bit
abbrev pub straight : ℕ → List Feed
straight n = map (λ i. Wire i false) (range_with_len 0 n)

-- an input gets a fixed bit
abbrev pub with_fixed : ℕ → Bool → List Feed → List Feed
with_fixed i b feed = slice_set feed i (Fixed b)

-- the shape's inputs get its values, and each other input gets its own bit
abbrev pub values_feed : ℕ → Shape → List Feed
values_feed n (Up i) = with_fixed i false (straight n)
values_feed n (Down i) = with_fixed i true (straight n)
values_feed n (Swap i j a b) = with_fixed j b (with_fixed i a (straight n))

-- the list that is kept in a form
abbrev pub feeds_in : Form → List Feed
feeds_in (Straight n) = straight n
feeds_in (Valued n shape) = values_feed n shape
feeds_in (Listed feeds) = feeds

-- what one input gets, where the shape's inputs get its values
abbrev pub value_at : Shape → ℕ → Feed
value_at (Up i) k = if k == i then Fixed false else Wire k false
value_at (Down i) k = if k == i then Fixed true else Wire k false
value_at (Swap i j a b) k = if k == j then Fixed b else if k == i then Fixed a else Wire k false
