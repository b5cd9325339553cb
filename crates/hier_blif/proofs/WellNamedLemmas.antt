-- For the law of flattened circuits: where no name is refused, what models name is there.
use Rattle.std.proofs.Common.{◌≡◌, ◌||◌, ◌<◌, ◌&&◌, Bool, true, false, not, ℕ, zero, suc, List, [], ◌∷◌, ◌++◌, length, All, Contains, inl, inr, Some, refl, sym, subst, ◌∙◌, arith}
use Rattle.std.specs.Prelude.{nat_lt, slice_get}
use Rattle.std.specs.Bool.{beq}
use Rattle.std.specs.List.{flat_map, list_any, position_or_len}
use Rattle.std.specs.Str.{bytes_eq}
use Rattle.std.proofs.lemmas.Bool.Decides.{nat_tests}
use Rattle.std.proofs.lemmas.List.Folds.{list_any-append}
use Rattle.std.proofs.lemmas.List.Elements.{All-nil, All-cons, All-contains, All-weaker, Contains-append_left, Contains-append_right, Contains-get_or}
use Rattle.text_core.specs.Piece.{Piece}
use Rattle.blif_reader.specs.Names.{is_undefined}
use Rattle.blif_reader.proofs.NumberLemmas.{any_place}
use Rattle.circuits.proofs.Lists.{cons_cases}
use Rattle.hier_blif.specs.declared.fault.HierKind.{HierKind}
use Rattle.hier_blif.specs.declared.fault.HierKind.TheVariants as wrong
use Rattle.hier_blif.specs.declared.model.InstanceLine.{InstanceLine}
use Rattle.hier_blif.specs.declared.model.ModelLine.{ModelLine}
use Rattle.hier_blif.specs.declared.model.ModelLine.TheVariants.{Instance}
use Rattle.hier_blif.specs.declared.model.BlifModel.{BlifModel}
use Rattle.hier_blif.specs.Models.{no_name, empty_model}
use Rattle.hier_blif.specs.Names.{inputs_of, instances_on, instances_of, all_instances, is_among, has_name, model_of, binds_input, binds_output, defined_in, read_in}
use Rattle.hier_blif.specs.NameFaults.{when, where_wrong, port_line_faults, port_faults, model_faults, binds_no_port, formal_faults, twice_faults, binds, leaves_unbound, unbound_faults, redefined_faults, undefined_faults, name_faults}
use Rattle.hier_blif.proofs.ElementLemmas.{some_same}
use Rattle.hier_blif.proofs.AgreeLemmas.{IsNameIn, AreWellNamed}

-- lists in a row that are empty
pub both_empty : {X : Type 0} (xs ys : List X) → xs ++ ys ≡ [] → (xs ≡ []) × (ys ≡ [])
both_empty [] ys h = (refl, h)
both_empty (x ∷ xs) ys h = absurd (cc h)

pub parts_empty : {X Y : Type 0} (f : X → List Y) (xs : List X) → flat_map f xs ≡ [] → All (λ x. f x ≡ []) xs
parts_empty f [] h = All-nil (λ x. f x ≡ [])
parts_empty f (x ∷ xs) h =
    let both = both_empty (f x) (flat_map f xs) h in
    All-cons (λ y. f y ≡ []) x xs both.0 (parts_empty f xs both.1)

no_one : (one other : Bool) → (one || other) ≡ false → (one ≡ false) × (other ≡ false)
no_one true other h = absurd (cc h)
no_one false other h = (refl, h)

pub none_passes : {X : Type 0} (p : X → Bool) (xs : List X) → list_any p xs ≡ false → All (λ x. p x ≡ false) xs
none_passes p [] h = All-nil (λ x. p x ≡ false)
none_passes p (x ∷ xs) h =
    let both = no_one (p x) (list_any p xs) h in
    All-cons (λ y. p y ≡ false) x xs both.0 (none_passes p xs both.1)

no_fault : (test : Bool) (kind : HierKind) (at : ℕ) → when test kind at ≡ [] → test ≡ false
no_fault true kind at h = cc h
no_fault false kind at h = refl

none_wrong : (kind : HierKind) (test : Piece → Bool) (words : List Piece) → where_wrong kind test words ≡ [] → All (λ word. test word ≡ false) words
none_wrong kind test words h =
    All-weaker (λ word. when (test word) kind word.at ≡ []) (λ word. test word ≡ false) (λ word. no_fault (test word) kind word.at) words (parts_empty (λ word. when (test word) kind word.at) words h)

positive : (t : Bool) → not t ≡ false → t ≡ true
positive true h = refl
positive false h = cc h

-- an element of a part is one of all
pub of_part : {X Y : Type 0} (f : X → List Y) (xs : List X) (x : X) (y : Y) → Contains xs x → Contains (f x) y → Contains (flat_map f xs) y
of_part f [] x y held inside = absurd (omega (arith, held.1))
of_part f (z ∷ xs) x y held inside =
    elim (cons_cases xs z x held) [
      | inl same ↦ Contains-append_left (f z) (flat_map f xs) y (subst (λ w. Contains (f w) y) (sym same) inside)
      | inr later ↦ Contains-append_right (f z) (flat_map f xs) y (of_part f xs x y later inside)
    ]

instance_held : (lines : List ModelLine) (k : ℕ) (line : InstanceLine) → slice_get lines k ≡ Some (Instance line) → Contains (flat_map instances_on lines) line
instance_held [] k line get = absurd (cc get)
instance_held (says ∷ lines) zero line get =
    let here : Contains (instances_on (Instance line)) line = (0, omega arith, refl) in
    Contains-append_left (instances_on says) (flat_map instances_on lines) line (subst (λ (l : ModelLine). Contains (instances_on l) line) (sym (some_same says (Instance line) get)) here)
instance_held (says ∷ lines) (suc k) line get =
    Contains-append_right (instances_on says) (flat_map instances_on lines) line (instance_held lines k line get)

pub among_all : (models : List BlifModel) (model : BlifModel) (k : ℕ) (line : InstanceLine) → Contains models model → slice_get model.lines k ≡ Some (Instance line) → Contains (all_instances models) line
among_all models model k line held get = of_part instances_of models model line held (instance_held model.lines k line get)

-- What follows where there is no fault of a kind, of each instance or model.
record AreNamedWell (models : List BlifModel) : Type 0 where
  some : All (λ line. model_faults models line ≡ []) (all_instances models)
  ports : All (λ line. formal_faults models line ≡ []) (all_instances models)
  bound : All (λ line. unbound_faults models line ≡ []) (all_instances models)
  known : All (λ model. undefined_faults models model ≡ []) models

no_faults : (models : List BlifModel) → name_faults models ≡ [] → AreNamedWell models
no_faults models h =
    let lines = all_instances models in
    let one = (both_empty (flat_map port_line_faults models) _ h).1 in
    let two = (both_empty (flat_map port_faults models) _ one).1 in
    let three = both_empty (flat_map (model_faults models) lines) _ two in
    let four = both_empty (flat_map (formal_faults models) lines) _ three.1 in
    let five = (both_empty (flat_map twice_faults lines) _ four.1).1 in
    let six = both_empty (flat_map (unbound_faults models) lines) _ five in
    let seven = (both_empty (flat_map (redefined_faults models) models) _ six.1).1 in
    record {
      some = parts_empty (model_faults models) lines three.0;
      ports = parts_empty (formal_faults models) lines four.0;
      bound = parts_empty (unbound_faults models) lines six.0;
      known = parts_empty (undefined_faults models) models seven;
    }

-- the model that an instance is of is there
named_there : (models : List BlifModel) (line : InstanceLine) → model_faults models line ≡ [] → Contains models (model_of models line)
named_there models line h =
    let test = has_name line.model.bytes in
    let any = positive (list_any test models) (no_fault (not (list_any test models)) wrong.NoModel line.model.at h) in
    Contains-get_or models (position_or_len test models) (empty_model 0 no_name) (below (position_or_len test models) (length models) (any_place test models ∙ any))
  where
    below : (n m : ℕ) → nat_lt n m ≡ true → n < m
    below n m h = grind (arith, nat_tests)

known_by : (one other : Bool) → (not one && not other) ≡ false → (one || other) ≡ true
known_by true other h = refl
known_by false true h = refl
known_by false false h = cc h

known_word : (models : List BlifModel) (model : BlifModel) (word : Piece) → is_undefined (inputs_of model) (defined_in models model) [] word ≡ false → IsNameIn models model word.bytes
known_word models model word h =
    list_any-append (λ (other : Piece). bytes_eq word.bytes other.bytes) (inputs_of model) (defined_in models model)
    ∙ known_by (is_among word.bytes (inputs_of model)) (is_among word.bytes (defined_in models model)) h

one_port : (one other : Bool) → beq one other ≡ false → one ≡ not other
one_port true true h = cc h
one_port true false h = refl
one_port false true h = refl
one_port false false h = cc h

-- models without a fault of names
pub well_named : (models : List BlifModel) → name_faults models ≡ [] → AreWellNamed models
well_named models h =
    let none = no_faults models h in
    record {
      there = λ model k line held get. named_there models line (All-contains (λ l. model_faults models l ≡ []) (all_instances models) line none.some (among_all models model k line held get));
      known = λ model held.
          let faults = All-contains (λ m. undefined_faults models m ≡ []) models model none.known held in
          let test = is_undefined (inputs_of model) (defined_in models model) [] in
          All-weaker (λ word. test word ≡ false) (λ word. IsNameIn models model word.bytes) (known_word models model) (read_in models model) (none_wrong wrong.Undefined test (read_in models model) faults);
      ports = λ model k line held get.
          let faults = All-contains (λ l. formal_faults models l ≡ []) (all_instances models) line none.ports (among_all models model k line held get) in
          All-weaker (λ word. binds_no_port models line word ≡ false) (λ word. binds_input models line word ≡ not (binds_output models line word)) (λ word. one_port (binds_input models line word) (binds_output models line word)) line.bindings (none_wrong wrong.Formal (binds_no_port models line) line.bindings faults);
      bound = λ model k line held get.
          let faults = All-contains (λ l. unbound_faults models l ≡ []) (all_instances models) line none.bound (among_all models model k line held get) in
          let inputs = inputs_of (model_of models line) in
          All-weaker (λ input. not (binds line input) ≡ false) (λ input. binds line input ≡ true) (λ input. positive (binds line input)) inputs (none_passes (λ input. not (binds line input)) inputs (no_fault (leaves_unbound models line) wrong.Unbound line.at faults));
    }
