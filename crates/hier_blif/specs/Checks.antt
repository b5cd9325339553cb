-- What is checked of a file's models before any instance is made. The first model is the top.
use Rattle.std.specs.Prelude.{◌≡◌, ℕ, ◌<◌, ◌≤◌, ◌⊎◌, true, List, [], All, Some}
use Rattle.hier_blif.specs.declared.fault.HierFault.{HierFault}
use Rattle.hier_blif.specs.declared.fault.HierKind.TheVariants as wrong
use Rattle.hier_blif.specs.declared.model.BlifModel.{BlifModel}
use Rattle.hier_blif.specs.Names.{all_instances, model_of}
use Rattle.hier_blif.specs.NameFaults.{name_faults}
use Rattle.hier_blif.specs.Stops.{first_of}
use Rattle.hier_blif.specs.Depths.{is_within, HasDepth, size_within}
use Rattle.hier_blif.specs.Hierarchies.{most_parts}
use Rattle.hier_blif.specs.Scopes.{model_at}
use Rattle.hier_blif.specs.Order.{IsRecursionAmong}
use Rattle.hier_blif.specs.Limits.{HasFewPorts, HasManyPorts}

-- No name is refused, and each instance's model has a depth.
pub record AreDeepModels (models : List BlifModel) : Type 0 where
  pub named : name_faults models ≡ []
  pub deep : All (λ line. HasDepth models (model_of models line)) (all_instances models)

-- And the top, which is within this depth, makes no more instances and covers than the limit.
pub record AreSmallModels (models : List BlifModel) : Type 0 where
  pub checked : AreDeepModels models
  pub depth : ℕ
  pub within : is_within models depth (model_at models 0) ≡ true
  pub small : size_within models depth (model_at models 0) ≤ most_parts

-- No name is refused, and the fault is at the first instance whose model has no depth.
pub record IsRecursive (models : List BlifModel) (fault : HierFault) : Type 0 where
  pub named : name_faults models ≡ []
  pub first : IsRecursionAmong models (all_instances models) fault

-- More instances and covers than the limit, at the file's end.
pub record IsTooBig (end : ℕ) (models : List BlifModel) (fault : HierFault) : Type 0 where
  pub checked : AreDeepModels models
  pub depth : ℕ
  pub within : is_within models depth (model_at models 0) ≡ true
  pub many : most_parts < size_within models depth (model_at models 0)
  pub is : fault ≡ record { kind = wrong.TooBig; at = end }

-- All that is asked of models is so: and the top has no more ports than the limits.
pub record AreChecked (models : List BlifModel) : Type 0 where
  pub small : AreSmallModels models
  pub few : HasFewPorts (model_at models 0).lines

-- More ports of the top than the limits.
pub record HasManyPortsAtTop (models : List BlifModel) (fault : HierFault) : Type 0 where
  pub small : AreSmallModels models
  pub many : HasManyPorts (model_at models 0).lines fault

-- the first fault of models that their lines don't have
abbrev pub IsModelFault : ℕ → List BlifModel → HierFault → Type 0
IsModelFault end models fault =
    (first_of (name_faults models) ≡ Some fault)
    ⊎ IsRecursive models fault
    ⊎ IsTooBig end models fault
    ⊎ HasManyPortsAtTop models fault
