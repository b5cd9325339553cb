-- The signals of the inputs that a claim's shape names.
use Rattle.std.specs.Prelude.{◌+◌, Bool, true, List, slice_set}
use Rattle.claim_core.specs.declared.claims.Shape.{Shape}
use Rattle.claim_core.specs.declared.claims.Shape.TheVariants.{Up, Down, Swap}

-- marks of signals, with those of a shape's inputs: input i has signal i + 1
abbrev pub with_shape : Shape → List Bool → List Bool
with_shape (Up i) marked = slice_set marked (i + 1) true
with_shape (Down i) marked = slice_set marked (i + 1) true
with_shape (Swap i j a b) marked = slice_set (slice_set marked (i + 1) true) (j + 1) true
