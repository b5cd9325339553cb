-- How deep models have instances in them, and how many. A model without instances has depth 1, another one is one
-- deeper than the deepest model of its instances; a model has no depth where it, or a model in it, has an instance of
-- itself in it.
use Rattle.std.specs.Prelude.{◌≡◌, ℕ, zero, suc, ◌+◌, Bool, true, false, List, ◌∷◌, ◌++◌, length, All}
use Rattle.std.specs.List.{list_all, sum_by}
use Rattle.hier_blif.specs.declared.model.InstanceLine.{InstanceLine}
use Rattle.hier_blif.specs.declared.model.BlifModel.{BlifModel}
use Rattle.hier_blif.specs.Names.{covers_of, instances_of, all_instances, model_of}

-- No model is within depth 0; within depth l + 1 is one whose instances are of models within depth l.
abbrev pub is_within : List BlifModel → ℕ → BlifModel → Bool
is_within models zero model = false
is_within models (suc l) model = list_all (λ line. is_within models l (model_of models line)) (instances_of model)

-- instances in the model come to an end: none leads back to a model in which it stands
abbrev pub HasDepth : List BlifModel → BlifModel → Type 0
HasDepth models model = (depth : ℕ) × (is_within models depth model ≡ true)

-- instances in the model never come to an end: it, or a model in it, has an instance of itself in it
abbrev pub HasNoDepth : List BlifModel → BlifModel → Type 0
HasNoDepth models model = (depth : ℕ) → is_within models depth model ≡ false

-- The first of the instances of all models whose model has no depth.
pub record IsFirstRecursive (models : List BlifModel) (line : InstanceLine) : Type 0 where
  pub before : List InstanceLine
  pub after : List InstanceLine
  pub whole : all_instances models ≡ before ++ line ∷ after
  pub deep : All (λ other. HasDepth models (model_of models other)) before
  pub recursive : HasNoDepth models (model_of models line)

-- how many instances a model within this depth makes, itself as one
abbrev pub instances_within : List BlifModel → ℕ → BlifModel → ℕ
instances_within models zero model = 1
instances_within models (suc l) model =
    1 + sum_by (λ line. instances_within models l (model_of models line)) (instances_of model)

-- how many covers these instances have
abbrev pub covers_within : List BlifModel → ℕ → BlifModel → ℕ
covers_within models zero model = 0
covers_within models (suc l) model =
    length (covers_of model) + sum_by (λ line. covers_within models l (model_of models line)) (instances_of model)

-- instances and covers together, of which a file may not have too many
abbrev pub size_within : List BlifModel → ℕ → BlifModel → ℕ
size_within models depth model = instances_within models depth model + covers_within models depth model
