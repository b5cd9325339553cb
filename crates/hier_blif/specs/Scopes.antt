-- What is looked up of the models of a file: numbers of names, ports and instances.
use Rattle.std.specs.Prelude.{◌≡◌, ℕ, ◌++◌, List, [], ◌∷◌, Option, is_some, position, slice_index_or, if◌then◌else◌}
use Rattle.std.specs.List.{AllZip, flat_map, list_any}
use Rattle.std.specs.Map.{lookup}
use Rattle.std.specs.Str.{bytes_eq}
use Rattle.std.specs.Borrow.{Bor}
use Rattle.std.specs.declared.hash.FoldHasher.{FoldHasher}
use Rattle.std.specs.declared.hash.BuildHasherDefault.{BuildHasherDefault}
use Rattle.indexmap.specs.IndexSet.{IndexSet}
use Rattle.blif_reader.specs.declared.names.PortNames.{PortNames}
use Rattle.blif_reader.specs.Numbers.{names_of, bytes_of}
use Rattle.hier_blif.specs.declared.fault.HierFault.{HierFault}
use Rattle.hier_blif.specs.declared.model.InstanceLine.{InstanceLine}
use Rattle.hier_blif.specs.declared.model.BlifModel.{BlifModel}
use Rattle.hier_blif.specs.declared.names.InstanceCheck.{InstanceCheck}
use Rattle.hier_blif.specs.declared.names.InstanceCheck.TheVariants as check
use Rattle.hier_blif.specs.declared.names.Scope.{Scope}
use Rattle.hier_blif.specs.Models.{no_name, empty_model}
use Rattle.hier_blif.specs.Names.{inputs_of, outputs_of, all_instances, has_name, names_in}
use Rattle.hier_blif.specs.NameFaults.{model_faults, formal_faults, twice_faults, unbound_faults, redefined_faults, undefined_faults}

-- the number of a name, if it has one
abbrev pub number_of : List (List ℕ × ℕ) → List ℕ → Option ℕ
number_of numbers name = lookup (bytes_eq name) numbers

-- a name that has a number keeps it
abbrev pub with_number : List (List ℕ × ℕ) → List ℕ → ℕ → List (List ℕ × ℕ)
with_number numbers name number = if is_some (number_of numbers name) then numbers else numbers ++ (name, number) ∷ []

-- the model at a place
abbrev pub model_at : List BlifModel → ℕ → BlifModel
model_at models place = slice_index_or models place (empty_model 0 no_name)

-- a name is one of these where it is the key of some element
pub record HasKeys {X : Type 0} (key : X → List ℕ) (xs : List X) (names : List (List ℕ)) : Type 0 where
  pub each : (name : List ℕ) → list_any (bytes_eq name) names ≡ list_any (λ x. bytes_eq name (key x)) xs

-- names, each of them once
abbrev pub NameSet : Type 0
NameSet = IndexSet (Bor (List ℕ)) (BuildHasherDefault FoldHasher)

-- these are the names of a model
abbrev pub HasNames : List BlifModel → BlifModel → NameSet → Type 0
HasNames models model names = HasKeys (λ word. word.bytes) (names_in models model) (names_of names)

-- these are the names of a model's ports
pub record HasPorts (model : BlifModel) (ports : PortNames) : Type 0 where
  pub inputs : names_of ports.inputs ≡ bytes_of (inputs_of model)
  pub outputs : names_of ports.outputs ≡ bytes_of (outputs_of model)

-- What is looked up is that of the models.
pub record IsScope (scope : Scope) : Type 0 where
  pub places : (name : List ℕ) → number_of scope.places name ≡ position (has_name name) scope.models.now
  pub ports : AllZip HasPorts scope.models.now scope.ports.items

-- what is wrong with an instance, by what is checked
abbrev pub faults_by : InstanceCheck → List BlifModel → InstanceLine → List HierFault
faults_by check.Models models line = model_faults models line
faults_by check.Formals models line = formal_faults models line
faults_by check.Once models line = twice_faults line
faults_by check.Inputs models line = unbound_faults models line

-- what is wrong with the names that lines have, where ports have their names
abbrev pub faults_of_lines : List BlifModel → List HierFault
faults_of_lines models =
    let lines = all_instances models in
    flat_map (model_faults models) lines
    ++ (flat_map (formal_faults models) lines
    ++ (flat_map twice_faults lines
    ++ (flat_map (unbound_faults models) lines
    ++ (flat_map (redefined_faults models) models
    ++ flat_map (undefined_faults models) models))))
