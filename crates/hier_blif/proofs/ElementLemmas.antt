-- Elements of lists that are put together of parts, and names among words.
use Rattle.std.proofs.Common.{◌≡◌, ℕ, zero, suc, ◌||◌, Bool, true, false, List, [], ◌∷◌, ◌++◌, map, All, Contains, ◌⊎◌, inl, inr, if◌then◌else◌, Option, Some, refl, ap, sym, subst, ◌∙◌, arith}
use Rattle.std.specs.Prelude.{unwrap_or, filter, slice_get}
use Rattle.std.specs.List.{flat_map, list_any}
use Rattle.std.specs.Str.{bytes_eq}
use Rattle.std.proofs.lemmas.List.Folds.{list_any-append, list_any_at}
use Rattle.std.proofs.lemmas.List.Elements.{All-nil, All-cons, All-head, All-tail, All-contains, All-filter, All-contains_itself, filter_passes}
use Rattle.std.proofs.lemmas.Slice.Eq.{bytes_eq-Decides}
use Rattle.text_core.specs.Piece.{Piece}
use Rattle.circuits.proofs.Lists.{All-front, All-back, contains_cons, cons_cases}
use Rattle.hier_blif.specs.Names.{is_among}

pub some_same : {X : Type 0} (x y : X) → Some x ≡ Some y → x ≡ y
some_same {X} x y h = ap (λ (o : Option X). unwrap_or o x) h

-- what holds of all parts together holds of one
pub all_of_place : {X Y : Type 0} (P : Y → Type 0) (f : X → List Y) (xs : List X) (k : ℕ) (x : X) → slice_get xs k ≡ Some x → All P (flat_map f xs) → All P (f x)
all_of_place P f [] k x h all = absurd (cc h)
all_of_place P f (y ∷ xs) zero x h all = subst (λ z. All P (f z)) (some_same y x h) (All-front P (f y) (flat_map f xs) all)
all_of_place P f (y ∷ xs) (suc k) x h all = all_of_place P f xs k x h (All-back P (f y) (flat_map f xs) all)

-- an element of a part, where one is found
abbrev pub InSome : {X Y : Type 0} → (Y → Bool) → (X → List Y) → List X → Type 0
InSome {X} {Y} p f xs = (k : ℕ) × (x : X) × (slice_get xs k ≡ Some x) × (list_any p (f x) ≡ true)

in_some_by : {X Y : Type 0} (t : Bool) (p : Y → Bool) (f : X → List Y) (x : X) (xs : List X) → list_any p (f x) ≡ t → (list_any p (flat_map f xs) ≡ true → InSome p f xs) → (t || list_any p (flat_map f xs)) ≡ true → InSome p f (x ∷ xs)
in_some_by true p f x xs e rest h = (0, x, refl, e)
in_some_by false p f x xs e rest h = let s = rest h in (suc s.0, s.1, s.2, s.3)

pub in_some : {X Y : Type 0} (p : Y → Bool) (f : X → List Y) (xs : List X) → list_any p (flat_map f xs) ≡ true → InSome p f xs
in_some p f [] h = absurd (cc h)
in_some p f (x ∷ xs) h =
    in_some_by (list_any p (f x)) p f x xs refl (in_some p f xs) (sym (list_any-append p (f x) (flat_map f xs)) ∙ h)

-- an element that passes
abbrev pub Found : {X : Type 0} → (X → Bool) → List X → Type 0
Found {X} p xs = (x : X) × Contains xs x × (p x ≡ true)

found_by : {X : Type 0} (t : Bool) (p : X → Bool) (x : X) (xs : List X) → p x ≡ t → (list_any p xs ≡ true → Found p xs) → (t || list_any p xs) ≡ true → Found p (x ∷ xs)
found_by true p x xs e rest h = (x, (0, omega arith, refl), e)
found_by false p x xs e rest h = let s = rest h in (s.0, contains_cons xs x s.0 s.1, s.2)

pub found : {X : Type 0} (p : X → Bool) (xs : List X) → list_any p xs ≡ true → Found p xs
found p [] h = absurd (cc h)
found p (x ∷ xs) h = found_by (p x) p x xs refl (found p xs) h

-- elements that a filter keeps
pub kept : {X : Type 0} (p : X → Bool) (xs : List X) (x : X) → Contains (filter p xs) x → Contains xs x × (p x ≡ true)
kept p xs x held = (
  All-contains (Contains xs) (filter p xs) x (All-filter p (Contains xs) xs (All-contains_itself xs)) held,
  All-contains (λ y. p y ≡ true) (filter p xs) x (filter_passes p xs) held,
)

keep_by : {X : Type 0} (t : Bool) (p : X → Bool) (y x : X) (xs : List X) → p y ≡ t → p x ≡ true → Contains (y ∷ xs) x → (Contains xs x → Contains (filter p xs) x) → Contains (if t then y ∷ filter p xs else filter p xs) x
keep_by true p y x xs e h held rest =
    elim (cons_cases xs y x held) [
      | inl same ↦ (0, omega arith, same)
      | inr later ↦ contains_cons (filter p xs) y x (rest later)
    ]
keep_by false p y x xs e h held rest =
    elim (cons_cases xs y x held) [
      | inl same ↦ absurd (cc (sym e ∙ (ap p same ∙ h)))
      | inr later ↦ rest later
    ]

pub keep : {X : Type 0} (p : X → Bool) (xs : List X) (x : X) → p x ≡ true → Contains xs x → Contains (filter p xs) x
keep p [] x h held = absurd (omega (arith, held.1))
keep p (y ∷ xs) x h held = keep_by (p y) p y x xs refl h held (keep p xs x h)

-- elements of a list that is mapped
pub All-unmapped : {X Y : Type 0} (P : Y → Type 0) (f : X → Y) (xs : List X) → All P (map f xs) → All (λ x. P (f x)) xs
All-unmapped P f [] all = All-nil (λ x. P (f x))
All-unmapped P f (x ∷ xs) all =
    All-cons (λ y. P (f y)) x xs (All-head P (f x) (map f xs) all) (All-unmapped P f xs (All-tail P (f x) (map f xs) all))

pub Contains-map : {X Y : Type 0} (f : X → Y) (xs : List X) (x : X) → Contains xs x → Contains (map f xs) (f x)
Contains-map f [] x held = absurd (omega (arith, held.1))
Contains-map f (y ∷ xs) x held =
    elim (cons_cases xs y x held) [
      | inl same ↦ (0, omega arith, ap f same)
      | inr later ↦ contains_cons (map f xs) (f y) (f x) (Contains-map f xs x later)
    ]

-- a name among words is that of one of them
pub same_bytes : (one other : List ℕ) → bytes_eq one other ≡ true → one ≡ other
same_bytes one other h = (bytes_eq-Decides one other).0 h

pub bytes_same : (one other : List ℕ) → one ≡ other → bytes_eq one other ≡ true
bytes_same one other h = (bytes_eq-Decides one other).1 h

pub word_named : (name : List ℕ) (words : List Piece) → is_among name words ≡ true → (word : Piece) × Contains words word × (name ≡ word.bytes)
word_named name words h =
    let is = found (λ (word : Piece). bytes_eq name word.bytes) words h in
    (is.0, is.1, same_bytes name is.0.bytes is.2)

pub among_words : (words : List Piece) (word : Piece) (name : List ℕ) → Contains words word → name ≡ word.bytes → is_among name words ≡ true
among_words words word name held same =
    list_any_at (λ (other : Piece). bytes_eq name other.bytes) words held.0 word held.1 (ap (λ (other : Piece). bytes_eq name other.bytes) held.2 ∙ bytes_same name word.bytes same)

-- names of two lists in a row
either_by : (one other : Bool) → (one || other) ≡ true → (one ≡ true) ⊎ (other ≡ true)
either_by true other h = inl refl
either_by false other h = inr h

pub among_either : (name : List ℕ) (one other : List Piece) → is_among name (one ++ other) ≡ true → (is_among name one ≡ true) ⊎ (is_among name other ≡ true)
among_either name one other h =
    either_by (is_among name one) (is_among name other) (sym (list_any-append (λ (word : Piece). bytes_eq name word.bytes) one other) ∙ h)
