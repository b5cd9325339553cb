-- For the law of flattened circuits: what instances share agrees on all their names, where it does on the top's inputs
-- and on what covers define.
use Rattle.std.proofs.Common.{◌≡◌, ℕ, zero, suc, inl, inr, true, false, not, List, [], ◌∷◌, ◌++◌, map, All, Contains, Some, refl, ap, sym, subst, ◌∙◌, append_assoc, append-nil}
use Rattle.std.specs.Prelude.{filter, slice_get}
use Rattle.std.specs.List.{flat_map}
use Rattle.std.specs.Str.{bytes_eq}
use Rattle.std.proofs.Math.Bool.{or-false}
use Rattle.std.proofs.lemmas.List.Elements.{All-head, All-append, All-contains}
use Rattle.std.proofs.lemmas.List.Sums.{AllPass-from_list_all}
use Rattle.text_core.specs.Piece.{Piece}
use Rattle.blif_reader.proofs.NumberLemmas.{list_any-map}
use Rattle.circuits.proofs.Lists.{All-front, All-back}
use Rattle.hier_blif.specs.declared.model.CoverLine.{CoverLine}
use Rattle.hier_blif.specs.declared.model.InstanceLine.{InstanceLine}
use Rattle.hier_blif.specs.declared.model.ModelLine.{ModelLine}
use Rattle.hier_blif.specs.declared.model.ModelLine.TheVariants.{Outputs, Cover, Instance}
use Rattle.hier_blif.specs.declared.model.BlifModel.{BlifModel}
use Rattle.hier_blif.specs.Bindings.{formal_of, actual_of}
use Rattle.hier_blif.specs.Names.{inputs_of, outputs_on, outputs_of, covers_on, covers_of, instances_on, instances_of, is_among, model_of, binds_input, binds_output, actual, defined_on, defined_in, read_on, read_in, names_in}
use Rattle.hier_blif.specs.NameFaults.{binds}
use Rattle.hier_blif.specs.Depths.{is_within}
use Rattle.hier_blif.specs.Nested.{IsInstance, OfNames, Shares, AreSameOnNames}
use Rattle.hier_blif.proofs.ElementLemmas.{all_of_place, in_some, found, kept, keep, All-unmapped, same_bytes, word_named, among_either}

-- a name is one of a model
abbrev pub IsNameIn : List BlifModel → BlifModel → List ℕ → Type 0
IsNameIn models model name = is_among name (names_in models model) ≡ true

-- What holds of models in which no name is refused.
pub record AreWellNamed (models : List BlifModel) : Type 0 where
  pub there : (model : BlifModel) (k : ℕ) (line : InstanceLine) → Contains models model → slice_get model.lines k ≡ Some (Instance line) → Contains models (model_of models line)
  pub known : (model : BlifModel) → Contains models model → All (λ word. IsNameIn models model word.bytes) (read_in models model)
  pub ports : (model : BlifModel) (k : ℕ) (line : InstanceLine) → Contains models model → slice_get model.lines k ≡ Some (Instance line) → All (λ word. binds_input models line word ≡ not (binds_output models line word)) line.bindings
  pub bound : (model : BlifModel) (k : ℕ) (line : InstanceLine) → Contains models model → slice_get model.lines k ≡ Some (Instance line) → All (λ input. binds line input ≡ true) (inputs_of (model_of models line))

-- an instance in an instance
pub instance_in : (models : List BlifModel) (path : List ℕ) (top model : BlifModel) (k : ℕ) (line : InstanceLine) → IsInstance models top path model → slice_get model.lines k ≡ Some (Instance line) → IsInstance models top (path ++ k ∷ []) (model_of models line)
instance_in models [] top model k line is get =
    (line, subst (λ (m : BlifModel). slice_get m.lines k ≡ Some (Instance line)) is get, refl)
instance_in models (j ∷ path) top model k line is get =
    (is.0, is.1, instance_in models path (model_of models is.0) model k line is.2 get)

-- instances are of models of the file
pub instance_there : (models : List BlifModel) (path : List ℕ) (top model : BlifModel) → AreWellNamed models → Contains models top → IsInstance models top path model → Contains models model
instance_there models [] top model well held is = subst (Contains models) (sym is) held
instance_there models (k ∷ path) top model well held is =
    instance_there models path (model_of models is.0) model well (well.there top k is.0 held is.1) is.2

-- the model of an instance is less deep
pub less_deep : (models : List BlifModel) (l : ℕ) (model : BlifModel) (k : ℕ) (line : InstanceLine) → is_within models (suc l) model ≡ true → slice_get model.lines k ≡ Some (Instance line) → is_within models l (model_of models line) ≡ true
less_deep models l model k line h get =
    let all = AllPass-from_list_all (λ (other : InstanceLine). is_within models l (model_of models other)) (instances_of model) h in
    All-head (λ (other : InstanceLine). is_within models l (model_of models other) ≡ true) line [] (all_of_place (λ (other : InstanceLine). is_within models l (model_of models other) ≡ true) instances_on model.lines k (Instance line) get all)

-- outputs are read
outputs_first : (P : Piece → Type 0) (models : List BlifModel) (line : ModelLine) (rest : List Piece) → All P (read_on models line) → All P rest → All P (outputs_on line ++ rest)
outputs_first P models (Outputs words) rest here later = All-append P words rest here later
outputs_first P models other rest here later = later

pub outputs_among_read : (P : Piece → Type 0) (models : List BlifModel) (lines : List ModelLine) → All P (flat_map (read_on models) lines) → All P (flat_map outputs_on lines)
outputs_among_read P models [] all = all
outputs_among_read P models (line ∷ lines) all =
    outputs_first P models line (flat_map outputs_on lines) (All-front P (read_on models line) (flat_map (read_on models) lines) all) (outputs_among_read P models lines (All-back P (read_on models line) (flat_map (read_on models) lines) all))

-- and so they are known
pub output_known : (models : List BlifModel) (model : BlifModel) (name : List ℕ) → AreWellNamed models → Contains models model → is_among name (outputs_of model) ≡ true → IsNameIn models model name
output_known models model name well held h =
    let word = word_named name (outputs_of model) h in
    let known = outputs_among_read (λ w. IsNameIn models model w.bytes) models model.lines (well.known model held) in
    subst (IsNameIn models model) (sym word.2) (All-contains (λ w. IsNameIn models model w.bytes) (outputs_of model) word.0 known word.1)

-- what an input is bound to is known
pub actual_known : (models : List BlifModel) (model : BlifModel) (k : ℕ) (line : InstanceLine) (word : Piece) → AreWellNamed models → Contains models model → slice_get model.lines k ≡ Some (Instance line) → Contains line.bindings word → binds_input models line word ≡ true → IsNameIn models model (actual_of word.bytes)
actual_known models model k line word well held get among input =
    let read = all_of_place (λ w. IsNameIn models model w.bytes) (read_on models) model.lines k (Instance line) get (well.known model held) in
    let bound = All-unmapped (λ w. IsNameIn models model w.bytes) actual (filter (binds_input models line) line.bindings) read in
    All-contains (λ w. IsNameIn models model (actual w).bytes) (filter (binds_input models line) line.bindings) word bound (keep (binds_input models line) line.bindings word input among)

-- a port that a word binds as an output is defined in its model
pub output_defined : (models : List BlifModel) (model : BlifModel) (k : ℕ) (line : InstanceLine) (word : Piece) → AreWellNamed models → Contains models model → slice_get model.lines k ≡ Some (Instance line) → Contains line.bindings word → binds_output models line word ≡ true → is_among (formal_of word.bytes) (defined_in models (model_of models line)) ≡ true
output_defined models model k line word well held get among output =
    let inside = model_of models line in
    let formal = formal_of word.bytes in
    let no_input : binds_input models line word ≡ false = All-contains (λ w. binds_input models line w ≡ not (binds_output models line w)) line.bindings word (well.ports model k line held get) among ∙ ap not output in
    elim (among_either formal (inputs_of inside) (defined_in models inside) (output_known models inside formal well (well.there model k line held get) output)) [
      | inl input ↦ cc (sym no_input ∙ input)
      | inr defined ↦ defined
    ]

-- Two things of names that instances share, and that agree on the top's inputs and on what covers define.
pub record Agree {X : Type 0} (models : List BlifModel) (top : BlifModel) (one other : OfNames X) : Type 0 where
  pub well : AreWellNamed models
  pub held : Contains models top
  pub inputs : All (λ word. one [] word.bytes ≡ other [] word.bytes) (inputs_of top)
  pub covers : (path : List ℕ) (model : BlifModel) → IsInstance models top path model → All (λ line. one path line.defined.bytes ≡ other path line.defined.bytes) (covers_of model)
  pub one_shared : (path : List ℕ) (model : BlifModel) → IsInstance models top path model → Shares one path model
  pub other_shared : (path : List ℕ) (model : BlifModel) → IsInstance models top path model → Shares other path model

-- they agree on what a line defines, where they do on what is defined in instances
cover_agrees : {X : Type 0} (models : List BlifModel) (top : BlifModel) (one other : OfNames X) (path : List ℕ) (model : BlifModel) (k : ℕ) (line : CoverLine) (name : List ℕ) → Agree models top one other → IsInstance models top path model → slice_get model.lines k ≡ Some (Cover line) → is_among name (line.defined ∷ []) ≡ true → one path name ≡ other path name
cover_agrees models top one other path model k line name a is get h =
    let here = All-head (λ (c : CoverLine). one path c.defined.bytes ≡ other path c.defined.bytes) line [] (all_of_place (λ (c : CoverLine). one path c.defined.bytes ≡ other path c.defined.bytes) covers_on model.lines k (Cover line) get (a.covers path model is)) in
    let same = same_bytes name line.defined.bytes (sym (or-false (bytes_eq name line.defined.bytes)) ∙ h) in
    subst (λ n. one path n ≡ other path n) (sym same) here

instance_agrees : {X : Type 0} (models : List BlifModel) (top : BlifModel) (one other : OfNames X) (path : List ℕ) (model : BlifModel) (k : ℕ) (line : InstanceLine) (name : List ℕ) → Agree models top one other → IsInstance models top path model → slice_get model.lines k ≡ Some (Instance line) → ((formal : List ℕ) → is_among formal (defined_in models (model_of models line)) ≡ true → one (path ++ k ∷ []) formal ≡ other (path ++ k ∷ []) formal) → is_among name (map actual (filter (binds_output models line) line.bindings)) ≡ true → one path name ≡ other path name
instance_agrees models top one other path model k line name a is get inside h =
    let outputs = filter (binds_output models line) line.bindings in
    let word = found (λ (w : Piece). bytes_eq name (actual w).bytes) outputs (sym (list_any-map (λ (w : Piece). bytes_eq name w.bytes) actual outputs) ∙ h) in
    let bound = kept (binds_output models line) line.bindings word.0 word.1 in
    let held = instance_there models path top model a.well a.held is in
    let formal = formal_of word.0.bytes in
    let defined = output_defined models model k line word.0 a.well held get bound.0 bound.1 in
    let first = All-contains (λ w. one (path ++ k ∷ []) (formal_of w.bytes) ≡ one path (actual_of w.bytes)) line.bindings word.0 (a.one_shared path model is k line get) bound.0 in
    let second = All-contains (λ w. other (path ++ k ∷ []) (formal_of w.bytes) ≡ other path (actual_of w.bytes)) line.bindings word.0 (a.other_shared path model is k line get) bound.0 in
    subst (λ n. one path n ≡ other path n) (sym (same_bytes name (actual_of word.0.bytes) word.2)) (sym first ∙ (inside formal defined ∙ second))

line_agrees : {X : Type 0} (models : List BlifModel) (top : BlifModel) (one other : OfNames X) (path : List ℕ) (model : BlifModel) (k : ℕ) (line : ModelLine) (name : List ℕ) → Agree models top one other → IsInstance models top path model → slice_get model.lines k ≡ Some line → ((instance : InstanceLine) → slice_get model.lines k ≡ Some (Instance instance) → (formal : List ℕ) → is_among formal (defined_in models (model_of models instance)) ≡ true → one (path ++ k ∷ []) formal ≡ other (path ++ k ∷ []) formal) → is_among name (defined_on models line) ≡ true → one path name ≡ other path name
line_agrees models top one other path model k (Cover line) name a is get inside h =
    cover_agrees models top one other path model k line name a is get h
line_agrees models top one other path model k (Instance line) name a is get inside h =
    instance_agrees models top one other path model k line name a is get (inside line get) h
line_agrees models top one other path model k other_line name a is get inside h = cc h

-- they agree on all that is defined
pub defined_agree : {X : Type 0} (l : ℕ) (models : List BlifModel) (top : BlifModel) (one other : OfNames X) (path : List ℕ) (model : BlifModel) (name : List ℕ) → Agree models top one other → IsInstance models top path model → is_within models l model ≡ true → is_among name (defined_in models model) ≡ true → one path name ≡ other path name
defined_agree zero models top one other path model name a is deep h = cc deep
defined_agree (suc l) models top one other path model name a is deep h =
    let line = in_some (λ (w : Piece). bytes_eq name w.bytes) (defined_on models) model.lines h in
    line_agrees models top one other path model line.0 line.1 name a is line.2 (λ instance get formal defined. defined_agree l models top one other (path ++ line.0 ∷ []) (model_of models instance) formal a (instance_in models path top model line.0 instance is get) (less_deep models l model line.0 instance deep get) defined) line.3

-- they agree on all names of an instance, where they do on its inputs
abbrev AgreeOnInputs : {X : Type 0} → OfNames X → OfNames X → List ℕ → BlifModel → Type 0
AgreeOnInputs one other path model = (name : List ℕ) → is_among name (inputs_of model) ≡ true → one path name ≡ other path name

names_agree : {X : Type 0} (l : ℕ) (models : List BlifModel) (top : BlifModel) (one other : OfNames X) (path : List ℕ) (model : BlifModel) → Agree models top one other → IsInstance models top path model → is_within models l model ≡ true → AgreeOnInputs one other path model → (name : List ℕ) → IsNameIn models model name → one path name ≡ other path name
names_agree l models top one other path model a is deep inputs name h =
    elim (among_either name (inputs_of model) (defined_in models model) h) [
      | inl input ↦ inputs name input
      | inr defined ↦ defined_agree l models top one other path model name a is deep defined
    ]

-- and so on the inputs of an instance in it
inputs_agree : {X : Type 0} (models : List BlifModel) (top : BlifModel) (one other : OfNames X) (path : List ℕ) (model : BlifModel) (k : ℕ) (line : InstanceLine) → Agree models top one other → IsInstance models top path model → slice_get model.lines k ≡ Some (Instance line) → ((name : List ℕ) → IsNameIn models model name → one path name ≡ other path name) → AgreeOnInputs one other (path ++ k ∷ []) (model_of models line)
inputs_agree models top one other path model k line a is get names name h =
    let held = instance_there models path top model a.well a.held is in
    let input = word_named name (inputs_of (model_of models line)) h in
    let binds_it = All-contains (λ i. binds line i ≡ true) (inputs_of (model_of models line)) input.0 (a.well.bound model k line held get) input.1 in
    let word = found (λ (w : Piece). bytes_eq input.0.bytes (formal_of w.bytes)) line.bindings binds_it in
    let same : name ≡ formal_of word.0.bytes = input.2 ∙ same_bytes input.0.bytes (formal_of word.0.bytes) word.2 in
    let known = actual_known models model k line word.0 a.well held get word.1 (subst (λ n. is_among n (inputs_of (model_of models line)) ≡ true) same h) in
    let first = All-contains (λ w. one (path ++ k ∷ []) (formal_of w.bytes) ≡ one path (actual_of w.bytes)) line.bindings word.0 (a.one_shared path model is k line get) word.1 in
    let second = All-contains (λ w. other (path ++ k ∷ []) (formal_of w.bytes) ≡ other path (actual_of w.bytes)) line.bindings word.0 (a.other_shared path model is k line get) word.1 in
    subst (λ n. one (path ++ k ∷ []) n ≡ other (path ++ k ∷ []) n) (sym same) (first ∙ (names (actual_of word.0.bytes) known ∙ sym second))

-- down a path
depth_down : (rest : List ℕ) (l : ℕ) (models : List BlifModel) (model last : BlifModel) → is_within models l model ≡ true → IsInstance models model rest last → (m : ℕ) × (is_within models m last ≡ true)
depth_down [] l models model last deep inside = (l, subst (λ m. is_within models l m ≡ true) (sym inside) deep)
depth_down (k ∷ rest) zero models model last deep inside = absurd (cc deep)
depth_down (k ∷ rest) (suc l) models model last deep inside =
    depth_down rest l models (model_of models inside.0) last (less_deep models l model k inside.0 deep inside.1) inside.2

inputs_down : {X : Type 0} (rest : List ℕ) (l : ℕ) (models : List BlifModel) (top : BlifModel) (one other : OfNames X) (path : List ℕ) (model last : BlifModel) → Agree models top one other → IsInstance models top path model → is_within models l model ≡ true → AgreeOnInputs one other path model → IsInstance models model rest last → AgreeOnInputs one other (path ++ rest) last
inputs_down [] l models top one other path model last a is deep inputs inside =
    subst (λ p. AgreeOnInputs one other p last) (sym (append-nil path)) (subst (AgreeOnInputs one other path) (sym inside) inputs)
inputs_down (k ∷ rest) zero models top one other path model last a is deep inputs inside = absurd (cc deep)
inputs_down (k ∷ rest) (suc l) models top one other path model last a is deep inputs inside =
    let line = inside.0 in
    let names = names_agree (suc l) models top one other path model a is deep inputs in
    let below = inputs_down rest l models top one other (path ++ k ∷ []) (model_of models line) last a (instance_in models path top model k line is inside.1) (less_deep models l model k line deep inside.1) (inputs_agree models top one other path model k line a is inside.1 names) inside.2 in
    subst (λ p. AgreeOnInputs one other p last) (append_assoc path (k ∷ []) rest) below

top_inputs : {X : Type 0} (models : List BlifModel) (top : BlifModel) (one other : OfNames X) → Agree models top one other → AgreeOnInputs one other [] top
top_inputs models top one other a name h =
    let input = word_named name (inputs_of top) h in
    subst (λ n. one [] n ≡ other [] n) (sym input.2) (All-contains (λ w. one [] w.bytes ≡ other [] w.bytes) (inputs_of top) input.0 a.inputs input.1)

-- they agree on all names of all instances
pub all_agree : {X : Type 0} (l : ℕ) (models : List BlifModel) (top : BlifModel) (one other : OfNames X) → Agree models top one other → is_within models l top ≡ true → AreSameOnNames models top one other
all_agree l models top one other a deep path model name is h =
    let down = inputs_down path l models top one other [] top model a refl deep (top_inputs models top one other a) is in
    let below = depth_down path l models top model deep is in
    names_agree below.0 models top one other path model a is below.1 down name h
