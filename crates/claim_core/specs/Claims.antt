-- Claims: that an output never falls where one or two inputs change (unateness and symmetry of functions, as in
-- textbooks of logic synthesis).
use Rattle.std.specs.Prelude.{◌≡◌, ℕ, ◌<◌, Bool, true, false, not, List, length, slice_set}
use Rattle.circuits.specs.Literals.{bit}
use Rattle.circuits.specs.Netlists.{Net, function_of}
use Rattle.net_core.specs.Sides.{Graphs}
use Rattle.net_core.specs.Sides.{graph_of}
use Rattle.claim_core.specs.declared.claims.Shape.{Shape}
use Rattle.claim_core.specs.declared.claims.Shape.TheVariants.{Up, Down, Swap}
use Rattle.claim_core.specs.declared.claims.Claim.{Claim}

-- an output's bit where the vector is x
abbrev pub output_bit : Net → ℕ → List Bool → Bool
output_bit net k x = bit (function_of net x) k

-- the vector with one input's bit set to a value
abbrev pub with_input : ℕ → Bool → List Bool → List Bool
with_input i b x = slice_set x i b

-- the vector with the shape's inputs set to its values
abbrev pub with_values : Shape → List Bool → List Bool
with_values (Up i) x = with_input i false x
with_values (Down i) x = with_input i true x
with_values (Swap i j a b) x = with_input j b (with_input i a x)

-- the vector with the shape's inputs set to the opposites of its values
abbrev pub with_opposites : Shape → List Bool → List Bool
with_opposites (Up i) x = with_input i true x
with_opposites (Down i) x = with_input i false x
with_opposites (Swap i j a b) x = with_input j (not b) (with_input i (not a) x)

-- the vector has the shape's values
abbrev pub HasValues : Shape → List Bool → Type 0
HasValues (Up i) x = bit x i ≡ false
HasValues (Down i) x = bit x i ≡ true
HasValues (Swap i j a b) x = (bit x i ≡ a) × (bit x j ≡ b)

-- the shape's inputs are there, a swap's lesser one first
abbrev pub IsPlaced : ℕ → Shape → Type 0
IsPlaced n (Up i) = i < n
IsPlaced n (Down i) = i < n
IsPlaced n (Swap i j a b) = (i < j) × (j < n)

-- from one bit to another is no fall
abbrev pub NoFall : Bool → Bool → Type 0
NoFall one other = one ≡ true → other ≡ true

-- the claim of a shape: with the shape's values the output is never 1 where it is 0 with the opposite ones
abbrev pub ShapeHolds : Net → ℕ → Shape → Type 0
ShapeHolds net k shape = (x : List Bool) → length x ≡ net.inputs
    → NoFall (output_bit net k (with_values shape x)) (output_bit net k (with_opposites shape x))

-- A vector with the shape's values gives 1, and with the shape's inputs inverted it gives 0.
pub record BreaksShape (net : Net) (k : ℕ) (shape : Shape) (x : List Bool) : Type 0 where
  pub inputs : length x ≡ net.inputs
  pub values : HasValues shape x
  pub before : output_bit net k x ≡ true
  pub after : output_bit net k (with_opposites shape x) ≡ false

-- some vector breaks the shape
abbrev pub ShapeFails : Net → ℕ → Shape → Type 0
ShapeFails net k shape = (x : List Bool) × BreaksShape net k shape x

-- The claim's output is there, and its shape's inputs.
pub record IsClaim (graphs : Graphs) (claim : Claim) : Type 0 where
  pub output : claim.output < length (graph_of graphs claim.side).outputs
  pub placed : IsPlaced (graph_of graphs claim.side).inputs claim.shape

-- no vector breaks the claim in its circuit
abbrev pub Holds : Graphs → Claim → Type 0
Holds graphs claim = ShapeHolds (graph_of graphs claim.side) claim.output claim.shape

-- on this vector the claim's output falls, where its inputs change as the claim says
abbrev pub Breaks : Graphs → Claim → List Bool → Type 0
Breaks graphs claim x = BreaksShape (graph_of graphs claim.side) claim.output claim.shape x
