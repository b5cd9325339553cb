-- How many instances and covers models make, as far as the limit and one.
use Rattle.std.specs.Prelude.{◌≡◌, ℕ, ◌+◌, ◌<◌, true, List, length, min, All, slice_index_or}
use Rattle.std.specs.List.{flat_map, sum_by}
use Rattle.hier_blif.specs.declared.model.ModelLine.{ModelLine}
use Rattle.hier_blif.specs.declared.model.BlifModel.{BlifModel}
use Rattle.hier_blif.specs.declared.sizes.Size.{Size}
use Rattle.hier_blif.specs.Names.{covers_on, instances_on, model_of}
use Rattle.hier_blif.specs.Depths.{is_within, instances_within, covers_within}
use Rattle.hier_blif.specs.Hierarchies.{most_parts}
use Rattle.hier_blif.specs.Scopes.{model_at}
use Rattle.hier_blif.specs.Order.{callees}

-- a number, and for all above the limit the one after it
abbrev pub capped : ℕ → ℕ
capped n = min n (most_parts + 1)

-- what one instance of a model makes, at whatever depth the model is within
pub record IsSize (models : List BlifModel) (model : BlifModel) (size : Size) : Type 0 where
  pub instances : (depth : ℕ) → is_within models depth model ≡ true
      → size.instances ≡ capped (instances_within models depth model)
  pub covers : (depth : ℕ) → is_within models depth model ≡ true
      → size.covers ≡ capped (covers_within models depth model)

-- how many covers are listed at a place
abbrev pub covers_listed : List Size → ℕ → ℕ
covers_listed sizes place = (slice_index_or sizes place (record { instances = 0; covers = 0 })).covers

-- what is listed at a place is what the model there makes
abbrev pub IsSizeAt : List BlifModel → List Size → ℕ → Type 0
IsSizeAt models sizes place = (d : Size) → IsSize models (model_at models place) (slice_index_or sizes place d)

-- Each model of the file has what it makes listed at its place.
pub record AreSizes (models : List BlifModel) (sizes : List Size) : Type 0 where
  pub entries : length sizes ≡ length models
  pub each : (place : ℕ) → place < length models → IsSizeAt models sizes place

-- the models that lines have instances of are within a depth
abbrev pub AreWithin : List BlifModel → ℕ → List ModelLine → Type 0
AreWithin models l lines = All (λ callee. is_within models l (model_at models callee) ≡ true) (callees models lines)

-- what lines make, and what their model has aside
abbrev pub instances_made : List BlifModel → ℕ → List ModelLine → ℕ
instances_made models l lines =
    sum_by (λ line. instances_within models l (model_of models line)) (flat_map instances_on lines)

-- the covers on these lines, and those of the instances that the lines make
abbrev pub covers_made : List BlifModel → ℕ → List ModelLine → ℕ
covers_made models l lines = length (flat_map covers_on lines)
    + sum_by (λ line. covers_within models l (model_of models line)) (flat_map instances_on lines)

-- What the lines of a model make is counted, up to the limit; `first` instances are there before them.
pub record Counts (models : List BlifModel) (first : ℕ) (lines : List ModelLine) (size : Size) : Type 0 where
  pub instances : (l : ℕ) → AreWithin models l lines → size.instances ≡ capped (first + instances_made models l lines)
  pub covers : (l : ℕ) → AreWithin models l lines → size.covers ≡ capped (covers_made models l lines)
