-- Which of the covers that a model makes defines a name.
use Rattle.std.specs.Prelude.{◌≡◌, ℕ, ◌+◌, ◌<◌, ◌≤◌, ◌||◌, Bool, true, List, [], ◌∷◌, length, take, drop, filter, All}
use Rattle.std.specs.Prelude.{Option, None, Some, is_some, option_map, slice_index_or, if◌then◌else◌}
use Rattle.std.specs.List.{flat_map, find}
use Rattle.std.specs.Option.{option_or}
use Rattle.std.specs.Str.{bytes_eq}
use Rattle.text_core.specs.Piece.{Piece}
use Rattle.hier_blif.specs.declared.model.ModelLine.{ModelLine}
use Rattle.hier_blif.specs.declared.model.InstanceLine.{InstanceLine}
use Rattle.hier_blif.specs.declared.model.BlifModel.{BlifModel}
use Rattle.hier_blif.specs.declared.sizes.Size.{Size}
use Rattle.hier_blif.specs.Bindings.{formal_of}
use Rattle.hier_blif.specs.Names.{is_among, instances_on, model_of, binds_output, defined_on, defined_in}
use Rattle.hier_blif.specs.Depths.{is_within, covers_within}
use Rattle.hier_blif.specs.Hierarchies.{most_parts}
use Rattle.hier_blif.specs.Flattening.{flat_covers}
use Rattle.hier_blif.specs.Signals.{driver, driver_on, driver_from}
use Rattle.hier_blif.specs.Scopes.{number_of, model_at}
use Rattle.hier_blif.specs.Sizes.{AreWithin, covers_made, Counts}

-- Each name that the model defines has a number, and no other one has. Where the model makes no more covers than the
-- limit, whatever depth it is within, the number is the cover that defines the name.
pub record IsDriven (models : List BlifModel) (model : BlifModel) (drivers : List (List ℕ × ℕ)) : Type 0 where
  pub names : (name : List ℕ) → is_some (number_of drivers name) ≡ is_among name (defined_in models model)
  pub numbers : (depth : ℕ) (name : List ℕ)
      → is_within models depth model ≡ true
      → covers_within models depth model ≤ most_parts
      → is_among name (defined_in models model) ≡ true
      → number_of drivers name ≡ Some (driver models depth model name)

abbrev pub IsDrivenAt : List BlifModel → List (List (List ℕ × ℕ)) → ℕ → Type 0
IsDrivenAt models drivers place =
    (d : List (List ℕ × ℕ)) → IsDriven models (model_at models place) (slice_index_or drivers place d)

pub record AreDrivers (models : List BlifModel) (drivers : List (List (List ℕ × ℕ))) : Type 0 where
  pub entries : length drivers ≡ length models
  pub each : (place : ℕ) → place < length models → IsDrivenAt models drivers place

-- the outputs that an instance binds are defined in its model
abbrev pub DefinesOutputs : List BlifModel → InstanceLine → Type 0
DefinesOutputs models line = All (λ word. binds_output models line word ≡ true
    → is_among (formal_of word.bytes) (defined_in models (model_of models line)) ≡ true) line.bindings

abbrev pub DefineOutputs : List BlifModel → ModelLine → Type 0
DefineOutputs models says = All (DefinesOutputs models) (instances_on says)

-- the cover that defines a name, where it is one of this line's, whose covers come after so many
abbrev pub driven_on : List BlifModel → ℕ → ℕ → ModelLine → List ℕ → Option ℕ
driven_on models l before says name =
    if is_among name (defined_on models says) then Some (before + driver_on (driver models l) models says name) else None

-- The names that a line defines have numbers too: the first that a name was given.
pub record Drives (models : List BlifModel) (says : ModelLine) (before : ℕ) (old new : List (List ℕ × ℕ)) : Type 0 where
  pub names : (name : List ℕ)
      → is_some (number_of new name) ≡ (is_some (number_of old name) || is_among name (defined_on models says))
  pub numbers : (l : ℕ) (name : List ℕ)
      → AreWithin models l (says ∷ [])
      → before + covers_made models l (says ∷ []) ≤ most_parts
      → number_of new name ≡ option_or (number_of old name) (driven_on models l before says name)

-- After the first k of a model's lines, which make so much: what has a number, continued by what the lines left define,
-- is what all lines define.
pub record IsDriving (models : List BlifModel) (lines : List ModelLine) (k : ℕ) (before : Size)
    (drivers : List (List ℕ × ℕ)) : Type 0 where
  pub counts : Counts models 0 (take k lines) before
  pub names : (name : List ℕ)
      → is_some (number_of drivers name) ≡ is_among name (flat_map (defined_on models) (take k lines))
  pub numbers : (l : ℕ) (name : List ℕ)
      → AreWithin models l lines
      → covers_made models l lines ≤ most_parts
      → option_or (number_of drivers name)
      (Some (driver_from (driver models l) (flat_covers models l) models before.covers (drop k lines) name))
      ≡ Some (driver_from (driver models l) (flat_covers models l) models 0 lines name)

-- Names were given numbers by words that pass a test, each by its first word, where they had none to begin with.
abbrev pub IsFilled : (Piece → Bool) → (Piece → List ℕ) → (Piece → ℕ) → List (List ℕ × ℕ) → List Piece → List (List ℕ × ℕ) → Type 0
IsFilled test key number begun words now = (name : List ℕ)
    → number_of now name ≡ option_or (number_of begun name)
    (option_map number (find (λ word. bytes_eq name (key word)) (filter test words)))
