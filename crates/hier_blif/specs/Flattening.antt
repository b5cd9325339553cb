-- A circuit of models as one flat circuit: the covers of all instances, over signals that the names of instances have.
use Rattle.std.specs.Prelude.{◌≡◌, ℕ, zero, suc, ◌+◌, List, [], ◌∷◌, ◌++◌, length, map}
use Rattle.circuits.specs.declared.definition.Def.{Def}
use Rattle.circuits.specs.declared.definition.Def.TheVariants as def
use Rattle.circuits.specs.Literals.{EachAt, plain_literal}
use Rattle.circuits.specs.Circuits.{Circuit}
use Rattle.hier_blif.specs.declared.model.CoverLine.{CoverLine}
use Rattle.hier_blif.specs.declared.model.ModelLine.{ModelLine}
use Rattle.hier_blif.specs.declared.model.ModelLine.TheVariants.{Cover, Instance}
use Rattle.hier_blif.specs.declared.model.BlifModel.{BlifModel}
use Rattle.hier_blif.specs.Names.{inputs_of, outputs_of, model_of}
use Rattle.hier_blif.specs.Nested.{IsInstance, OfNames, Shares}

-- A cover of an instance: the instance's path, and the line.
abbrev pub FlatCover : Type 0
FlatCover = List ℕ × CoverLine

-- a cover of the model itself, and of no instance in it
abbrev pub own_cover : CoverLine → FlatCover
own_cover line = ([], line)

-- a cover of the instance on line k, as the model sees it that has that line
abbrev pub cover_inside : ℕ → FlatCover → FlatCover
cover_inside k cover = (k ∷ cover.0, cover.1)

-- The covers of a model within this depth and of all instances in it. They stand in the order of the text, a `.subckt`
-- line standing for those of its instance.
abbrev pub covers_at : (BlifModel → List FlatCover) → List BlifModel → ℕ → ModelLine → List FlatCover
covers_at below models k (Cover line) = own_cover line ∷ []
covers_at below models k (Instance line) = map (cover_inside k) (below (model_of models line))
covers_at below models k other = []

-- the covers of these lines of a model and of the instances on them; the first is its line k
abbrev pub covers_from : (BlifModel → List FlatCover) → List BlifModel → ℕ → List ModelLine → List FlatCover
covers_from below models k [] = []
covers_from below models k (line ∷ lines) =
    covers_at below models k line ++ covers_from below models (suc k) lines

-- the covers of a model and of all instances in it, each with the path to its instance
abbrev pub flat_covers : List BlifModel → ℕ → BlifModel → List FlatCover
flat_covers models zero model = []
flat_covers models (suc l) model = covers_from (flat_covers models l) models 0 model.lines

-- A numbering gives each name of each instance a signal: the top's inputs come first, then what covers define, in their
-- order; and an instance's port has the signal of what it is bound to.
pub record IsNumbering (models : List BlifModel) (top : BlifModel) (covers : List FlatCover)
    (signal : OfNames ℕ) : Type 0 where
  pub inputs : EachAt (λ i word. signal [] word.bytes ≡ 1 + i) (inputs_of top)
  pub defined : EachAt (λ d cover. signal cover.0 cover.1.defined.bytes ≡ 1 + length (inputs_of top) + d) covers
  pub shared : (path : List ℕ) (model : BlifModel) → IsInstance models top path model → Shares signal path model

-- a cover over signals
abbrev pub flat_def : OfNames ℕ → FlatCover → Def
flat_def signal cover =
    def.Cover (map (λ word. signal cover.0 word.bytes) cover.1.operands) cover.1.rows cover.1.on

-- one circuit without instances: the top's ports, and the covers of all instances over signals
abbrev pub flat_circuit : BlifModel → List FlatCover → OfNames ℕ → Circuit
flat_circuit top covers signal = record {
  inputs = length (inputs_of top);
  defs = map (flat_def signal) covers;
  outputs = map (λ word. plain_literal (signal [] word.bytes)) (outputs_of top);
}

-- The circuit is the top with these covers, by some numbering.
pub record IsFlattened (models : List BlifModel) (top : BlifModel) (covers : List FlatCover)
    (circuit : Circuit) : Type 0 where
  pub signal : OfNames ℕ
  pub numbered : IsNumbering models top covers signal
  pub is : circuit ≡ flat_circuit top covers signal
