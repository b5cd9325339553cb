-- For `names`: the keys of elements as a set of names, one more at a time.
use Rattle.std.proofs.Common.{◌≡◌, ℕ, ◌+◌, ◌<◌, ◌≤◌, ◌||◌, ◌&&◌, Bool, true, false, not, List, [], ◌∷◌, ◌++◌, length, map, get_or, take, Bor, refl, ap, sym, subst, ◌∙◌, append_assoc}
use Rattle.std.specs.List.{list_any, list_all, position_or_len}
use Rattle.std.specs.Str.{bytes_eq}
use Rattle.std.proofs.lemmas.Bool.{not-false}
use Rattle.std.proofs.lemmas.List.{append-nil, take_more, take_all}
use Rattle.std.proofs.lemmas.List.Folds.{list_any-append}
use Rattle.text_core.specs.Piece.{Piece}
use Rattle.blif_reader.specs.Names.{is_undefined}
use Rattle.blif_reader.specs.Numbers.{bytes_of, IsAdded}
use Rattle.blif_reader.proofs.NumberLemmas.{list_any-map}
use Rattle.hier_blif.specs.declared.model.InstanceLine.{InstanceLine}
use Rattle.hier_blif.specs.declared.model.BlifModel.{BlifModel}
use Rattle.hier_blif.specs.Bindings.{formal_of}
use Rattle.hier_blif.specs.Names.{inputs_of, is_among, has_name, model_of, defined_in, names_in}
use Rattle.hier_blif.specs.NameFaults.{binds, leaves_unbound}
use Rattle.hier_blif.specs.Scopes.{HasKeys, model_at}
use Rattle.hier_blif.proofs.ElementLemmas.{same_bytes}

or_false : (t : Bool) → (t || false) ≡ t
or_false true = refl
or_false false = refl

kept_by : (t : Bool) (name q : List ℕ) (old : List (List ℕ)) → bytes_eq q name ≡ t → list_any (bytes_eq name) old ≡ true → list_any (bytes_eq q) old ≡ (list_any (bytes_eq q) old || t)
kept_by false name q old e there = sym (or_false (list_any (bytes_eq q) old))
kept_by true name q old e there =
    let here : list_any (bytes_eq q) old ≡ true = ap (λ n. list_any (bytes_eq n) old) (same_bytes q name e) ∙ there in
    here ∙ sym (ap (λ t. t || true) here)

-- what is among names to which one is added
added_any : (added : Bool) (name q : List ℕ) (old new : List (List ℕ)) → IsAdded name added old new → list_any (bytes_eq q) new ≡ (list_any (bytes_eq q) old || bytes_eq q name)
added_any true name q old new is =
    ap (list_any (bytes_eq q)) is.names
    ∙ (list_any-append (bytes_eq q) old (name ∷ []) ∙ ap (λ t. list_any (bytes_eq q) old || t) (or_false (bytes_eq q name)))
added_any false name q old new is =
    ap (list_any (bytes_eq q)) is.names
    ∙ kept_by (bytes_eq q name) name q old refl (not-false (list_any (bytes_eq name) old) (sym is.told))

pub keys_push : {X : Type 0} (key : X → List ℕ) (xs : List X) (x : X) (added : Bool) (old new : List (List ℕ)) → HasKeys key xs old → IsAdded (key x) added old new → HasKeys key (xs ++ x ∷ []) new
keys_push {X} key xs x added old new has adds = record {
  each = λ q.
      let p = λ (y : X). bytes_eq q (key y) in
      let pushed = list_any-append p xs (x ∷ []) ∙ ap (λ t. list_any p xs || t) (or_false (p x)) in
      added_any added (key x) q old new adds ∙ (ap (λ t. t || bytes_eq q (key x)) (has.each q) ∙ sym pushed);
}

pub keys_more : {X : Type 0} (key : X → List ℕ) (xs : List X) (k : ℕ) (x : X) (added : Bool) (old new : List (List ℕ)) → k < length xs → x ≡ get_or xs k x → HasKeys key (take k xs) old → IsAdded (key x) added old new → HasKeys key (take (k + 1) xs) new
keys_more key xs k x added old new below is has adds =
    let more : take k xs ++ x ∷ [] ≡ take (k + 1) xs = sym (take_more xs k x below ∙ ap (λ y. take k xs ++ y ∷ []) (sym is)) in
    subst (λ ys. HasKeys key ys new) more (keys_push key (take k xs) x added old new has adds)

pub keys_after : {X : Type 0} (key : X → List ℕ) (front xs : List X) (k : ℕ) (x : X) (added : Bool) (old new : List (List ℕ)) → k < length xs → x ≡ get_or xs k x → HasKeys key (front ++ take k xs) old → IsAdded (key x) added old new → HasKeys key (front ++ take (k + 1) xs) new
keys_after key front xs k x added old new below is has adds =
    let more : take k xs ++ x ∷ [] ≡ take (k + 1) xs = sym (take_more xs k x below ∙ ap (λ y. take k xs ++ y ∷ []) (sym is)) in
    subst (λ ys. HasKeys key ys new) (append_assoc front (take k xs) (x ∷ []) ∙ ap (λ ys. front ++ ys) more) (keys_push key (front ++ take k xs) x added old new has adds)

pub all_keys : {X : Type 0} (key : X → List ℕ) (xs : List X) (k : ℕ) (names : List (List ℕ)) → length xs ≤ k → HasKeys key (take k xs) names → HasKeys key xs names
all_keys key xs k names past has = subst (λ ys. HasKeys key ys names) (take_all k xs past) has

pub all_after : {X : Type 0} (key : X → List ℕ) (front xs : List X) (k : ℕ) (names : List (List ℕ)) → length xs ≤ k → HasKeys key (front ++ take k xs) names → HasKeys key (front ++ xs) names
all_after key front xs k names past has = subst (λ ys. HasKeys key (front ++ ys) names) (take_all k xs past) has

-- a name is added where no key is the same
turned : (t b : Bool) → b ≡ not t → t ≡ not b
turned true b h = sym (ap not h)
turned false b h = sym (ap not h)

pub key_told : {X : Type 0} (key : X → List ℕ) (xs : List X) (x : X) (added b : Bool) (old new : List (List ℕ)) → HasKeys key xs old → IsAdded (key x) added old new → added ≡ b → list_any (λ y. bytes_eq (key x) (key y)) xs ≡ not b
key_told key xs x added b old new has adds told =
    sym (has.each (key x)) ∙ (turned (list_any (bytes_eq (key x)) old) added adds.told ∙ ap not told)

-- of two lists in a row
pub two_told : {X : Type 0} (key : X → List ℕ) (front xs : List X) (x : X) (added b : Bool) (old new : List (List ℕ)) → HasKeys key (front ++ xs) old → IsAdded (key x) added old new → added ≡ b → (list_any (λ y. bytes_eq (key x) (key y)) front || list_any (λ y. bytes_eq (key x) (key y)) xs) ≡ not b
two_told key front xs x added b old new has adds told =
    sym (list_any-append (λ y. bytes_eq (key x) (key y)) front xs) ∙ key_told key (front ++ xs) x added b old new has adds told

-- names that are the bytes of words
pub keys_as_words : (keys : List (Bor (List ℕ))) (words : List Piece) (names : List (List ℕ)) → map (λ (key : Bor (List ℕ)). key.now) keys ≡ bytes_of words → HasKeys (λ (key : Bor (List ℕ)). key.now) keys names → HasKeys (λ (word : Piece). word.bytes) words names
keys_as_words keys words names is has = record {
  each = λ q.
      has.each q
      ∙ (sym (list_any-map (bytes_eq q) (λ (key : Bor (List ℕ)). key.now) keys)
      ∙ (ap (list_any (bytes_eq q)) is ∙ list_any-map (bytes_eq q) (λ (word : Piece). word.bytes) words));
}

-- whether an instance binds all inputs
de_morgan : (one other : Bool) → (not one || not other) ≡ not (one && other)
de_morgan true other = refl
de_morgan false other = refl

some_fails : {X : Type 0} (p q : X → Bool) (xs : List X) → ((x : X) → p x ≡ q x) → list_any (λ x. not (q x)) xs ≡ not (list_all p xs)
some_fails p q [] same = refl
some_fails p q (x ∷ xs) same =
    ap (λ t. not t || list_any (λ y. not (q y)) xs) (sym (same x))
    ∙ (ap (λ t. not (p x) || t) (some_fails p q xs same) ∙ de_morgan (p x) (list_all p xs))

pub bound_told : (models : List BlifModel) (line : InstanceLine) (place : ℕ) (names : List (List ℕ)) (bound : Bool) → place ≡ position_or_len (has_name line.model.bytes) models → HasKeys (λ (word : Piece). formal_of word.bytes) line.bindings names → bound ≡ list_all (λ (input : Piece). list_any (bytes_eq input.bytes) names) (inputs_of (model_at models place)) → leaves_unbound models line ≡ not bound
bound_told models line place names bound is has told =
    let p = λ (input : Piece). list_any (bytes_eq input.bytes) names in
    some_fails p (binds line) (inputs_of (model_of models line)) (λ input. has.each input.bytes)
    ∙ ap not (sym (told ∙ ap (λ n. list_all p (inputs_of (model_at models n))) is))

-- of a name that is read
pub undefined_told : (models : List BlifModel) (model : BlifModel) (names : List (List ℕ)) (word : Piece) → HasKeys (λ (other : Piece). other.bytes) (names_in models model) names → is_undefined (inputs_of model) (defined_in models model) [] word ≡ not (list_any (bytes_eq word.bytes) names)
undefined_told models model names word has =
    none_of_two (is_among word.bytes (inputs_of model)) (is_among word.bytes (defined_in models model))
    ∙ ap not (sym (has.each word.bytes ∙ list_any-append (λ (other : Piece). bytes_eq word.bytes other.bytes) (inputs_of model) (defined_in models model)))
  where
    none_of_two : (one other : Bool) → (not one && not other) ≡ not (one || other)
    none_of_two true other = refl
    none_of_two false other = refl

-- before the first
pub none_after : {X : Type 0} (key : X → List ℕ) (front xs : List X) (names : List (List ℕ)) → HasKeys key front names → HasKeys key (front ++ take 0 xs) names
none_after key front xs names has = subst (λ ys. HasKeys key ys names) (sym (append-nil front)) has
