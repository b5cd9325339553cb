-- What outputs are on 512 vectors, and on these with one input inverted (signatures, as in papers on simulation in
-- logic synthesis).
use Rattle.std.specs.Prelude.{◌≡◌, ℕ, ◌+◌, ◌<◌, ◌≤◌, ◌⊎◌, Bool, true, List, length, slice_index_or}
use Rattle.circuits.specs.Literals.{EachAt}
use Rattle.circuits.specs.Netlists.{Net}
use Rattle.net_core.specs.Graph.{IsGraph}
use Rattle.claim_core.specs.declared.claims.Shape.{Shape}
use Rattle.claim_core.specs.Claims.{output_bit}
use Rattle.sim_signature.specs.declared.change.Change.{Change}
use Rattle.sim_signature.specs.declared.change.Change.TheVariants.{Nothing, Inverted}
use Rattle.sim_signature.specs.Changes.{IsChange, changed, ends_of}
use Rattle.sim_signature.specs.Blocks.{block_bit, pattern}

-- Some outputs of a circuit, from one on, and 512 vectors: a block of eight words for each input.
pub record Signed : Type 0 where
  pub net : Net
  pub first : ℕ
  pub count : ℕ
  pub blocks : List (List ℕ)

-- These are of that many outputs of a circuit from one on.
pub record AreOf (net : Net) (first count : ℕ) (s : Signed) : Type 0 where
  pub net_is : s.net ≡ net
  pub first_is : s.first ≡ first
  pub count_is : s.count ≡ count

-- each vector stands among the 512
abbrev pub HasAllVectors : Signed → Type 0
HasAllVectors s = (x : List Bool) → length x ≡ s.net.inputs
    → (w : ℕ) × (v : ℕ) × (w < 8) × (v < 64) × (x ≡ pattern s.blocks w v)

-- a vector is tried for a shape: one of the 512 with one of the shape's inputs inverted, or for a shape of one input as
-- it is
abbrev pub IsTried : Signed → Shape → List Bool → Type 0
IsTried s shape x = (w : ℕ) × (v : ℕ) × (w < 8) × (v < 64)
    × ((x ≡ changed (ends_of shape).0 (pattern s.blocks w v)) ⊎ (x ≡ changed (ends_of shape).1 (pattern s.blocks w v)))

-- a vector is that of a bit that is 1 of a block, changed
abbrev pub IsOneOf : List (List ℕ) → List ℕ → Change → List Bool → Type 0
IsOneOf blocks lanes change x = (w : ℕ) × (v : ℕ) × (w < 8) × (v < 64) × (block_bit w v lanes ≡ true)
    × (x ≡ changed change (pattern blocks w v))

-- an output's block where the vectors are changed
abbrev pub IsBlock : Signed → Change → ℕ → List ℕ → Type 0
IsBlock s change k block = (w v : ℕ) → w < 8 → v < 64
    → block_bit w v block ≡ output_bit s.net (s.first + k) (changed change (pattern s.blocks w v))

-- The outputs' blocks where the vectors are changed.
pub record IsColumn (s : Signed) (change : Change) (column : List (List ℕ)) : Type 0 where
  pub count : length column ≡ s.count
  pub bits : EachAt (IsBlock s change) column

-- the place of a change's column
abbrev pub place_of : Change → ℕ
place_of Nothing = 0
place_of (Inverted i) = 1 + i

-- A column for the vectors as they are, and one for each of the first inputs inverted.
pub record AreColumns (s : Signed) (done : ℕ) (columns : List (List (List ℕ))) : Type 0 where
  pub count : length columns ≡ 1 + done
  pub each : (change : Change) (d : List (List ℕ)) → IsChange done change → IsColumn s change (slice_index_or columns (place_of change) d)

-- The outputs are there, and there is a column for each input.
pub record AreSigned (s : Signed) (columns : List (List (List ℕ))) : Type 0 where
  pub graph : IsGraph s.net
  pub inputs : length s.blocks ≡ s.net.inputs
  pub there : s.first + s.count ≤ length s.net.outputs
  pub all : AreColumns s s.net.inputs columns

-- an output is among them
abbrev pub Covers : Signed → ℕ → Type 0
Covers s output = (s.first ≤ output) × (output < s.first + s.count)
