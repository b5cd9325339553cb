-- Files that stay as they are.
use Rattle.std.specs.Prelude.{◌≡◌, ℕ, List}
use Rattle.shelf_core.specs.State.{ShelfState}

-- under each name stands what stood there
abbrev pub SameFiles : ShelfState → ShelfState → Type 0
SameFiles before after = (name : List ℕ) → after.held name ≡ before.held name
