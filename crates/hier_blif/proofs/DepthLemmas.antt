-- For the law that a file has one first fault: what is said of a depth that a model is within is the same for another one.
use Rattle.std.proofs.Common.{◌≡◌, ℕ, zero, suc, ◌+◌, ◌<◌, ◌||◌, Bool, true, false, not, cond, List, [], ◌∷◌, ◌++◌, length, map, get_or, All, Contains, refl, ap, sym, subst, ◌∙◌, arith}
use Rattle.std.specs.List.{flat_map, sum_by, list_all}
use Rattle.std.proofs.lemmas.List.Elements.{All-head, All-tail, All-contains, Contains-get_or}
use Rattle.std.proofs.lemmas.List.Sums.{AllPass-from_list_all, sum_by-cons}
use Rattle.text_core.specs.Piece.{Piece}
use Rattle.circuits.specs.declared.netlist.Lit.{Lit}
use Rattle.circuits.specs.declared.definition.Def.{Def}
use Rattle.circuits.specs.declared.definition.Def.TheVariants as def
use Rattle.circuits.specs.Literals.{plain_literal}
use Rattle.circuits.specs.Circuits.{Circuit}
use Rattle.circuits.proofs.Lists.{All-front, All-back}
use Rattle.blif_reader.specs.Directives.{directive_of, is_model, is_passed_over}
use Rattle.blif_reader.specs.Faults.{has_line}
use Rattle.hier_blif.specs.declared.model.CoverLine.{CoverLine}
use Rattle.hier_blif.specs.declared.model.InstanceLine.{InstanceLine}
use Rattle.hier_blif.specs.declared.model.ModelLine.{ModelLine}
use Rattle.hier_blif.specs.declared.model.ModelLine.TheVariants.{Instance}
use Rattle.hier_blif.specs.declared.model.BlifModel.{BlifModel}
use Rattle.hier_blif.specs.Models.{no_name, empty_model, body, begun_by, named_models, front_model, models_of, top_of}
use Rattle.hier_blif.specs.Names.{inputs_of, outputs_of, covers_of, instances_on, instances_of, model_of}
use Rattle.hier_blif.specs.Depths.{is_within, instances_within, covers_within, size_within}
use Rattle.hier_blif.specs.Nested.{OfNames, AreSameOnNames}
use Rattle.hier_blif.specs.Flattening.{FlatCover, cover_inside, covers_at, covers_from, flat_covers, IsNumbering, flat_def, IsFlattened}
use Rattle.hier_blif.proofs.AgreeLemmas.{IsNameIn, AreWellNamed, outputs_among_read, instance_there, Agree, all_agree}
use Rattle.hier_blif.proofs.FlatCoverLemmas.{cover_among, IsOfInstance, covers_of_instances}
use Rattle.hier_blif.proofs.FlatLemmas.{map_same, operands_among_read}

-- sums that are the same
sum_same : {X : Type 0} (f g : X → ℕ) (xs : List X) → All (λ x. f x ≡ g x) xs → sum_by f xs ≡ sum_by g xs
sum_same f g [] all = refl
sum_same f g (x ∷ xs) all =
    sum_by-cons f x xs
    ∙ (ap (λ n. n + sum_by f xs) (All-head (λ y. f y ≡ g y) x xs all)
    ∙ (ap (λ n. g x + n) (sum_same f g xs (All-tail (λ y. f y ≡ g y) x xs all)) ∙ sym (sum_by-cons g x xs)))

-- of two depths
both_within : (P : InstanceLine → Type 0) (models : List BlifModel) (d e : ℕ) (model : BlifModel) → is_within models (suc d) model ≡ true → is_within models (suc e) model ≡ true → ((line : InstanceLine) → is_within models d (model_of models line) ≡ true → is_within models e (model_of models line) ≡ true → P line) → All P (instances_of model)
both_within P models d e model one other each k z below =
    each (get_or (instances_of model) k z) (AllPass-from_list_all (λ (l : InstanceLine). is_within models d (model_of models l)) (instances_of model) one k z below) (AllPass-from_list_all (λ (l : InstanceLine). is_within models e (model_of models l)) (instances_of model) other k z below)

pub same_instances : (d e : ℕ) (models : List BlifModel) (model : BlifModel) → is_within models d model ≡ true → is_within models e model ≡ true → instances_within models d model ≡ instances_within models e model
same_instances zero e models model one other = cc one
same_instances (suc d) zero models model one other = cc other
same_instances (suc d) (suc e) models model one other =
    ap (λ n. 1 + n) (sum_same (λ line. instances_within models d (model_of models line)) (λ line. instances_within models e (model_of models line)) (instances_of model) (both_within _ models d e model one other (λ line. same_instances d e models (model_of models line))))

same_count : (d e : ℕ) (models : List BlifModel) (model : BlifModel) → is_within models d model ≡ true → is_within models e model ≡ true → covers_within models d model ≡ covers_within models e model
same_count zero e models model one other = cc one
same_count (suc d) zero models model one other = cc other
same_count (suc d) (suc e) models model one other =
    ap (λ n. length (covers_of model) + n) (sum_same (λ line. covers_within models d (model_of models line)) (λ line. covers_within models e (model_of models line)) (instances_of model) (both_within _ models d e model one other (λ line. same_count d e models (model_of models line))))

pub same_size : (d e : ℕ) (models : List BlifModel) (model : BlifModel) → is_within models d model ≡ true → is_within models e model ≡ true → size_within models d model ≡ size_within models e model
same_size d e models model one other =
    ap (λ n. n + covers_within models d model) (same_instances d e models model one other)
    ∙ ap (λ n. instances_within models e model + n) (same_count d e models model one other)

-- the flattened covers
line_same : (f g : BlifModel → List FlatCover) (models : List BlifModel) (k : ℕ) (says : ModelLine) → All (λ line. f (model_of models line) ≡ g (model_of models line)) (instances_on says) → covers_at f models k says ≡ covers_at g models k says
line_same f g models k (Instance line) all =
    ap (map (cover_inside k)) (All-head (λ l. f (model_of models l) ≡ g (model_of models l)) line [] all)
line_same f g models k other all = refl

lines_same : (f g : BlifModel → List FlatCover) (models : List BlifModel) (start : ℕ) (lines : List ModelLine) → All (λ line. f (model_of models line) ≡ g (model_of models line)) (flat_map instances_on lines) → covers_from f models start lines ≡ covers_from g models start lines
lines_same f g models start [] all = refl
lines_same f g models start (says ∷ lines) all =
    let P = λ (line : InstanceLine). f (model_of models line) ≡ g (model_of models line) in
    ap (λ cs. cs ++ covers_from f models (suc start) lines) (line_same f g models start says (All-front P (instances_on says) (flat_map instances_on lines) all))
    ∙ ap (λ cs. covers_at g models start says ++ cs) (lines_same f g models (suc start) lines (All-back P (instances_on says) (flat_map instances_on lines) all))

pub same_covers : (d e : ℕ) (models : List BlifModel) (model : BlifModel) → is_within models d model ≡ true → is_within models e model ≡ true → flat_covers models d model ≡ flat_covers models e model
same_covers zero e models model one other = cc one
same_covers (suc d) zero models model one other = cc other
same_covers (suc d) (suc e) models model one other =
    lines_same (flat_covers models d) (flat_covers models e) models 0 model.lines (both_within _ models d e model one other (λ line. same_covers d e models (model_of models line)))

-- two numberings agree on all names
numbers_agree : (models : List BlifModel) (top : BlifModel) (l : ℕ) (one other : OfNames ℕ) → AreWellNamed models → Contains models top → is_within models l top ≡ true → IsNumbering models top (flat_covers models l top) one → IsNumbering models top (flat_covers models l top) other → AreSameOnNames models top one other
numbers_agree models top l one other well held deep first second =
    let covers = flat_covers models l top in
    let n = length (inputs_of top) in
    let agree : Agree models top one other = record {
      well = well;
      held = held;
      inputs = λ i d below. first.inputs i d below ∙ sym (second.inputs i d below);
      covers = λ path model is k d below.
          let line = get_or (covers_of model) k d in
          let among = cover_among l path models top model line is deep (Contains-get_or (covers_of model) k d below) in
          let in_first : one path line.defined.bytes ≡ 1 + n + among.0 = subst (λ (c : FlatCover). one c.0 c.1.defined.bytes ≡ 1 + n + among.0) among.2 (first.defined among.0 (path, line) among.1) in
          let in_second : other path line.defined.bytes ≡ 1 + n + among.0 = subst (λ (c : FlatCover). other c.0 c.1.defined.bytes ≡ 1 + n + among.0) among.2 (second.defined among.0 (path, line) among.1) in
          in_first ∙ sym in_second;
      one_shared = first.shared;
      other_shared = second.shared;
    } in
    all_agree l models top one other agree deep

-- so that the flat circuit is the same
defs_same : (models : List BlifModel) (top : BlifModel) (one other : OfNames ℕ) (covers : List FlatCover) → AreWellNamed models → Contains models top → AreSameOnNames models top one other → All (IsOfInstance models top) covers → map (flat_def one) covers ≡ map (flat_def other) covers
defs_same models top one other [] well held same all = refl
defs_same models top one other (cover ∷ covers) well held same all =
    let is = All-head (IsOfInstance models top) cover covers all in
    let model = is.0 in
    let known = All-contains (λ (line : CoverLine). All (λ (word : Piece). IsNameIn models model word.bytes) line.operands) (covers_of model) cover.1 (operands_among_read (λ (word : Piece). IsNameIn models model word.bytes) models model.lines (well.known model (instance_there models cover.0 top model well held is.2))) is.1 in
    let names = map_same (λ (word : Piece). one cover.0 word.bytes) (λ (word : Piece). other cover.0 word.bytes) cover.1.operands (λ k d below. same cover.0 model (get_or cover.1.operands k d).bytes is.2 (known k d below)) in
    ap (λ ns. def.Cover ns cover.1.rows cover.1.on ∷ map (flat_def one) covers) names
    ∙ ap (λ ds. flat_def other cover ∷ ds) (defs_same models top one other covers well held same (All-tail (IsOfInstance models top) cover covers all))

abbrev with_parts : BlifModel → List Def → List Lit → Circuit
with_parts top defs outputs = record { inputs = length (inputs_of top); defs = defs; outputs = outputs }

pub same_circuit : (models : List BlifModel) (top : BlifModel) (d e : ℕ) (a b : Circuit) → AreWellNamed models → Contains models top → is_within models d top ≡ true → is_within models e top ≡ true → IsFlattened models top (flat_covers models d top) a → IsFlattened models top (flat_covers models e top) b → a ≡ b
same_circuit models top d e a b well held one other first second =
    let again = subst (λ cs. IsFlattened models top cs b) (same_covers e d models top other one) second in
    let covers = flat_covers models d top in
    let same = numbers_agree models top d first.signal again.signal well held one first.numbered again.numbered in
    let known = outputs_among_read (λ (word : Piece). IsNameIn models top word.bytes) models top.lines (well.known top held) in
    let defs = defs_same models top first.signal again.signal covers well held same (covers_of_instances d models top) in
    let outputs = map_same (λ (word : Piece). plain_literal (first.signal [] word.bytes)) (λ (word : Piece). plain_literal (again.signal [] word.bytes)) (outputs_of top) (λ k z below. ap plain_literal (same [] top (get_or (outputs_of top) k z).bytes refl (known k z below))) in
    first.is
    ∙ (ap (λ ds. with_parts top ds (map (λ (word : Piece). plain_literal (first.signal [] word.bytes)) (outputs_of top))) defs
    ∙ (ap (with_parts top (map (flat_def again.signal) covers)) outputs ∙ sym again.is))

-- a text has a top
first_held : {X : Type 0} (xs : List X) (d : X) → 0 < length xs → Contains xs (get_or xs 0 d)
first_held xs d some = Contains-get_or xs 0 d some

named_by : (t : Bool) (line : List Piece) (lines : List (List Piece)) → (has_line is_model lines ≡ true → 0 < length (named_models lines)) → (t || has_line is_model lines) ≡ true → 0 < length (cond t (begun_by line lines ∷ named_models lines) (named_models lines))
named_by true line lines rest h = omega arith
named_by false line lines rest h = rest h

some_named : (lines : List (List Piece)) → has_line is_model lines ≡ true → 0 < length (named_models lines)
some_named [] h = absurd (cc h)
some_named (line ∷ lines) h = named_by (is_model (directive_of line)) line lines (some_named lines) h

front_or_named : (all some : Bool) (front : BlifModel) (named : List BlifModel) → (some ≡ true → 0 < length named) → 0 < length (cond (not all || not some) (front ∷ named) named)
front_or_named false some front named h = omega arith
front_or_named true false front named h = omega arith
front_or_named true true front named h = h refl

pub top_held : (lines : List (List Piece)) → Contains (models_of lines) (top_of (models_of lines))
top_held lines =
    first_held (models_of lines) (empty_model 0 no_name) (front_or_named (list_all (λ line. is_passed_over (directive_of line)) (body lines)) (has_line is_model lines) (front_model lines) (named_models lines) (some_named lines))
