-- Vectors that were seen to break claims of an output.
use Rattle.std.specs.Prelude.{◌≡◌, ◌⊎◌, ℕ, Bool, true, List, length, All, Any, Contains}
use Rattle.circuits.specs.Literals.{bit}
use Rattle.circuits.specs.Netlists.{Net}
use Rattle.claim_core.specs.declared.claims.Shape.{Shape}
use Rattle.claim_core.specs.declared.claims.Shape.TheVariants.{Up, Down, Swap}
use Rattle.claim_core.specs.Claims.{IsPlaced, BreaksShape, ShapeFails}
use Rattle.sim_signature.specs.Signatures.{HasAllVectors, Signed}
use Rattle.sim_signature.specs.declared.sighting.Sighting.{Sighting}

-- the vector breaks the shape, whose inputs are there
abbrev pub IsBroken : Net → ℕ → Sighting → Type 0
IsBroken net k sighting = IsPlaced net.inputs sighting.shape × BreaksShape net k sighting.shape sighting.vector

-- each sighting's vector breaks its claim of this output
abbrev pub AreBroken : Net → ℕ → List Sighting → Type 0
AreBroken net k sightings = All (IsBroken net k) sightings

-- some sighting is of the shape
abbrev pub IsSighted : Shape → List Sighting → Type 0
IsSighted shape sightings = Any (λ sighting. sighting.shape ≡ shape) sightings

-- each of these claims was sighted or is among those that are left
abbrev pub AreLeft : List Shape → List Sighting → List Shape → Type 0
AreLeft claims sightings left = (shape : Shape) → Contains claims shape → Contains left shape ⊎ IsSighted shape sightings

-- Elements are added to a list: good ones, and the list still has those shapes that it had, and has all that are
-- wanted.
pub record Adds {X : Type 0} (Good : X → Type 0) (Has : List X → Shape → Type 0) (Wanted : Shape → Type 0) (old new : List X) : Type 0 where
  pub good : All Good old → All Good new
  pub kept : (shape : Shape) → Has old shape → Has new shape
  pub found : (shape : Shape) → Wanted shape → Has new shape

-- sightings are added: where all vectors were tried, each shape among those hunted that some vector breaks is sighted
abbrev pub Hunted : Signed → ℕ → (Shape → Type 0) → List Sighting → List Sighting → Type 0
Hunted s k Among old new = Adds (IsBroken s.net k) (λ sightings shape. IsSighted shape sightings)
    (λ shape. Among shape × HasAllVectors s × ShapeFails s.net k shape) old new

-- the first input of a shape
abbrev pub first_of : Shape → ℕ
first_of (Up i) = i
first_of (Down i) = i
first_of (Swap i j a b) = i

-- the last input of a shape
abbrev pub last_of : Shape → ℕ
last_of (Up i) = i
last_of (Down i) = i
last_of (Swap i j a b) = j

-- The inputs of a shape are there, and are marked.
pub record IsHunted (hunted : List Bool) (shape : Shape) : Type 0 where
  pub placed : IsPlaced (length hunted) shape
  pub first : bit hunted (first_of shape) ≡ true
  pub last : bit hunted (last_of shape) ≡ true

-- shapes whose inputs are there are added, and among them are those that are wanted
abbrev pub Added : ℕ → (Shape → Type 0) → List Shape → List Shape → Type 0
Added n Wanted old new = Adds (IsPlaced n) (λ shapes shape. Contains shapes shape) Wanted old new
