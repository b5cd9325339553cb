-- Changes of a vector: one input inverted, or none.
use Rattle.std.specs.Prelude.{◌≡◌, ℕ, ◌<◌, ◌==◌, Bool, false, not, List, length}
use Rattle.circuits.specs.Literals.{bit}
use Rattle.claim_core.specs.declared.claims.Shape.{Shape}
use Rattle.claim_core.specs.declared.claims.Shape.TheVariants.{Up, Down, Swap}
use Rattle.claim_core.specs.Claims.{HasValues, with_input, with_opposites}
use Rattle.sim_signature.specs.declared.change.Change.{Change}
use Rattle.sim_signature.specs.declared.change.Change.TheVariants.{Nothing, Inverted}

-- the vector with the change's input inverted
abbrev pub changed : Change → List Bool → List Bool
changed Nothing x = x
changed (Inverted i) x = with_input i (not (bit x i)) x

-- the change's input is there
abbrev pub IsChange : ℕ → Change → Type 0
IsChange n Nothing = Unit {0}
IsChange n (Inverted i) = i < n

-- whether a change inverts an input
abbrev pub is_inverted : Change → ℕ → Bool
is_inverted Nothing k = false
is_inverted (Inverted i) k = k == i

-- two changes of a vector that make vectors which differ at the shape's inputs alone
abbrev pub ends_of : Shape → Change × Change
ends_of (Up i) = (Inverted i, Nothing)
ends_of (Down i) = (Inverted i, Nothing)
ends_of (Swap i j a b) = (Inverted i, Inverted j)

-- Two changes that lead from any vector to two that differ at a shape's inputs alone: where one of these has the
-- shape's values, the other one has the opposite ones.
pub record AreEnds (n : ℕ) (shape : Shape) (from to : Change) : Type 0 where
  pub from_there : IsChange n from
  pub to_there : IsChange n to
  pub opposite : (x : List Bool) → length x ≡ n
      → HasValues shape (changed from x)
      → with_opposites shape (changed from x) ≡ changed to x
