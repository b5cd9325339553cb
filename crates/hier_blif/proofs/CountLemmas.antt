-- The covers that are counted without being made are those of the flat circuit: line by line, from the models without
-- instances up.
use Rattle.std.proofs.Common.{◌≡◌, ℕ, zero, suc, ◌+◌, List, [], ◌∷◌, length, map, ap, sym, refl, ◌∙◌, arith}
use Rattle.std.specs.List.{flat_map, sum_by}
use Rattle.std.proofs.lemmas.List.{length-append, length-map}
use Rattle.std.proofs.lemmas.List.Sums.{sum_by-cons}
use Rattle.hier_blif.specs.declared.model.InstanceLine.{InstanceLine}
use Rattle.hier_blif.specs.declared.model.ModelLine.{ModelLine}
use Rattle.hier_blif.specs.declared.model.ModelLine.TheVariants.{Inputs, Outputs, Cover, Instance}
use Rattle.hier_blif.specs.declared.model.BlifModel.{BlifModel}
use Rattle.hier_blif.specs.Names.{covers_on, instances_on, model_of}
use Rattle.hier_blif.specs.Depths.{covers_within}
use Rattle.hier_blif.specs.Flattening.{FlatCover, cover_inside, covers_from, flat_covers}

one_more : (a b c : ℕ) → a ≡ b + c → suc a ≡ suc b + c
one_more a b c h = omega (arith, h)

added : (n a b c s : ℕ) → n ≡ a → s ≡ b + c → n + s ≡ b + (a + c)
added n a b c s h k = omega (arith, h, k)

pub counted_lines : (f : BlifModel → List FlatCover) (g : BlifModel → ℕ) (models : List BlifModel) → ((model : BlifModel) → length (f model) ≡ g model) → (k : ℕ) (lines : List ModelLine) → length (covers_from f models k lines) ≡ length (flat_map covers_on lines) + sum_by (λ line. g (model_of models line)) (flat_map instances_on lines)
counted_lines f g models same k [] = refl
counted_lines f g models same k (Inputs words ∷ lines) = counted_lines f g models same (suc k) lines
counted_lines f g models same k (Outputs words ∷ lines) = counted_lines f g models same (suc k) lines
counted_lines f g models same k (Cover line ∷ lines) =
    one_more (length (covers_from f models (suc k) lines)) (length (flat_map covers_on lines)) (sum_by (λ (l : InstanceLine). g (model_of models l)) (flat_map instances_on lines)) (counted_lines f g models same (suc k) lines)
counted_lines f g models same k (Instance line ∷ lines) =
    let sum = λ (l : InstanceLine). g (model_of models l) in
    let inner = f (model_of models line) in
    let here : length (map (cover_inside k) inner) ≡ g (model_of models line) = length-map inner (cover_inside k) ∙ same (model_of models line) in
    let rest = counted_lines f g models same (suc k) lines in
    length-append (map (cover_inside k) inner) (covers_from f models (suc k) lines)
    ∙ (added (length (map (cover_inside k) inner)) (g (model_of models line)) (length (flat_map covers_on lines)) (sum_by sum (flat_map instances_on lines)) (length (covers_from f models (suc k) lines)) here rest
    ∙ ap (λ n. length (flat_map covers_on lines) + n) (sym (sum_by-cons sum line (flat_map instances_on lines))))

pub counted : (depth : ℕ) (models : List BlifModel) (model : BlifModel) → length (flat_covers models depth model) ≡ covers_within models depth model
counted zero models model = refl
counted (suc l) models model = counted_lines (flat_covers models l) (covers_within models l) models (counted l models) 0 model.lines
