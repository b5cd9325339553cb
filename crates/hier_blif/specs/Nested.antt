-- What a circuit of models means (Berkeley Logic Interchange Format, 1992): each instance has the names of its model
-- for itself, and shares those that are bound with the instance in which it stands.
use Rattle.std.specs.Prelude.{◌≡◌, ℕ, Bool, true, List, [], ◌∷◌, ◌++◌, map, All, Some, slice_get}
use Rattle.circuits.specs.Literals.{EachAt, bit}
use Rattle.circuits.specs.Circuits.{cover_bit}
use Rattle.hier_blif.specs.declared.model.CoverLine.{CoverLine}
use Rattle.hier_blif.specs.declared.model.InstanceLine.{InstanceLine}
use Rattle.hier_blif.specs.declared.model.ModelLine.TheVariants.{Instance}
use Rattle.hier_blif.specs.declared.model.BlifModel.{BlifModel}
use Rattle.hier_blif.specs.Bindings.{formal_of, actual_of}
use Rattle.hier_blif.specs.Names.{inputs_of, outputs_of, covers_of, is_among, model_of, names_in}

-- The instance at a path of this model is of that one. A path has the places of the `.subckt` lines that lead to it,
-- among the lines of their models, from the model down.
abbrev pub IsInstance : List BlifModel → BlifModel → List ℕ → BlifModel → Type 0
IsInstance models top [] model = model ≡ top
IsInstance models top (k ∷ path) model =
    (line : InstanceLine)
    × (slice_get top.lines k ≡ Some (Instance line))
    × IsInstance models (model_of models line) path model

-- Something of each name of each instance, by the path and the name.
abbrev pub OfNames : Type 0 → Type 0
OfNames X = List ℕ → List ℕ → X

-- an instance shares with those in it what is bound: a port has what its actual has
abbrev pub Shares : {X : Type 0} → OfNames X → List ℕ → BlifModel → Type 0
Shares value path model = (k : ℕ) (line : InstanceLine)
    → slice_get model.lines k ≡ Some (Instance line)
    → All (λ word. value (path ++ k ∷ []) (formal_of word.bytes) ≡ value path (actual_of word.bytes)) line.bindings

-- the bit of a cover, where names have these bits
abbrev pub cover_value : (List ℕ → Bool) → CoverLine → Bool
cover_value bits line = cover_bit (map (λ word. bits word.bytes) line.operands) line.rows line.on

-- A nested valuation gives each name of each instance a bit. It fits the vector x where all of these hold at once.
pub record FitsNested (models : List BlifModel) (top : BlifModel) (x : List Bool) (value : OfNames Bool) : Type 0 where
  pub inputs : EachAt (λ i word. value [] word.bytes ≡ bit x i) (inputs_of top)
  pub covers : (path : List ℕ) (model : BlifModel)
      → IsInstance models top path model
      → All (λ line. value path line.defined.bytes ≡ cover_value (value path) line) (covers_of model)
  pub shared : (path : List ℕ) (model : BlifModel) → IsInstance models top path model → Shares value path model

-- the bits of the outputs
abbrev pub nested_outputs : BlifModel → OfNames Bool → List Bool
nested_outputs top value = map (λ word. value [] word.bytes) (outputs_of top)

-- two nested valuations give each name of each instance one bit
abbrev pub AreSameOnNames : {X : Type 0} → List BlifModel → BlifModel → OfNames X → OfNames X → Type 0
AreSameOnNames models top one other = (path : List ℕ) (model : BlifModel) (name : List ℕ)
    → IsInstance models top path model
    → is_among name (names_in models model) ≡ true
    → one path name ≡ other path name
