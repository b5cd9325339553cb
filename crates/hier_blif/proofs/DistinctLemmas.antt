-- For numberings: words whose names differ, where a test of those before finds none.
use Rattle.std.proofs.Common.{◌≡◌, ℕ, zero, suc, ◌+◌, ◌<◌, ◌||◌, Bool, true, false, not, cond, List, [], ◌∷◌, ◌++◌, length, get_or, All, Contains, inl, inr, Some, refl, ap, sym, ◌∙◌, arith}
use Rattle.std.specs.List.{list_any, find, position_or_len}
use Rattle.std.specs.Str.{bytes_eq}
use Rattle.std.proofs.lemmas.List.Elements.{All-nil, All-cons, All-contains, Contains-append_left, Contains-push}
use Rattle.circuits.proofs.Lists.{cons_cases, All-front, All-back}
use Rattle.hier_blif.specs.NameFaults.{found_after}
use Rattle.hier_blif.proofs.ElementLemmas.{bytes_same}
use Rattle.hier_blif.proofs.WellNamedLemmas.{none_passes}

-- no two elements have one name
abbrev pub AreApart : {X : Type 0} → (X → List ℕ) → List X → Type 0
AreApart key [] = Unit {0}
AreApart key (x ∷ xs) = All (λ other. bytes_eq (key other) (key x) ≡ false) xs × AreApart key xs

-- an element for which a test says nothing, and those after it
clear_by : {X : Type 0} (t : Bool) (test : List X → X → Bool) (earlier : List X) (x : X) (rest : List X) → test earlier x ≡ t → cond t (x ∷ rest) rest ≡ [] → (test earlier x ≡ false) × (rest ≡ [])
clear_by true test earlier x rest e h = absurd (cc h)
clear_by false test earlier x rest e h = (e, h)

pub clear : {X : Type 0} (test : List X → X → Bool) (earlier : List X) (x : X) (xs : List X) → found_after test earlier (x ∷ xs) ≡ [] → (test earlier x ≡ false) × (found_after test (earlier ++ x ∷ []) xs ≡ [])
clear test earlier x xs h =
    clear_by (test earlier x) test earlier x (found_after test (earlier ++ x ∷ []) xs) refl h

-- a test that compares with those before
pub record Compares {X : Type 0} (test : List X → X → Bool) (key : X → List ℕ) : Type 0 where
  pub with_each : (earlier : List X) (x : X) → test earlier x ≡ false → list_any (λ other. bytes_eq (key x) (key other)) earlier ≡ false

apart_from : {X : Type 0} (test : List X → X → Bool) (key : X → List ℕ) (earlier xs : List X) (e : X) → Compares test key → Contains earlier e → found_after test earlier xs ≡ [] → All (λ other. bytes_eq (key other) (key e) ≡ false) xs
apart_from test key earlier [] e c held h = All-nil (λ other. bytes_eq (key other) (key e) ≡ false)
apart_from test key earlier (x ∷ xs) e c held h =
    let here = clear test earlier x xs h in
    let none = none_passes (λ other. bytes_eq (key x) (key other)) earlier (c.with_each earlier x here.0) in
    All-cons (λ other. bytes_eq (key other) (key e) ≡ false) x xs (All-contains (λ other. bytes_eq (key x) (key other) ≡ false) earlier e none held) (apart_from test key (earlier ++ x ∷ []) xs e c (Contains-append_left earlier (x ∷ []) e held) here.1)

pub apart : {X : Type 0} (test : List X → X → Bool) (key : X → List ℕ) (earlier xs : List X) → Compares test key → found_after test earlier xs ≡ [] → AreApart key xs
apart test key earlier [] c h = tt
apart test key earlier (x ∷ xs) c h =
    let here = clear test earlier x xs h in
    (apart_from test key (earlier ++ x ∷ []) xs x c (Contains-push earlier x) here.1, apart test key (earlier ++ x ∷ []) xs c here.1)

-- what the test says of each
pub each_clear : {X : Type 0} (test : List X → X → Bool) (P : X → Type 0) (earlier xs : List X) → ((before : List X) (x : X) → test before x ≡ false → P x) → found_after test earlier xs ≡ [] → All P xs
each_clear test P earlier [] says h = All-nil P
each_clear test P earlier (x ∷ xs) says h =
    let here = clear test earlier x xs h in
    All-cons P x xs (says earlier x here.0) (each_clear test P (earlier ++ x ∷ []) xs says here.1)

-- the first of a name is the one
find_here : {X : Type 0} (p : X → Bool) (x : X) (xs : List X) → p x ≡ true → find p (x ∷ xs) ≡ Some x
find_here p x xs h = ap (λ t. cond t (Some x) (find p xs)) h

find_later : {X : Type 0} (p : X → Bool) (x : X) (xs : List X) → p x ≡ false → find p (x ∷ xs) ≡ find p xs
find_later p x xs h = ap (λ t. cond t (Some x) (find p xs)) h

pub find_own : {X : Type 0} (key : X → List ℕ) (xs : List X) (w : X) → AreApart key xs → Contains xs w → find (λ other. bytes_eq (key w) (key other)) xs ≡ Some w
find_own key [] w a held = absurd (omega (arith, held.1))
find_own {X} key (x ∷ xs) w a held =
    elim (cons_cases xs x w held) [
      | inl same ↦ find_here (λ other. bytes_eq (key w) (key other)) x xs (bytes_same (key w) (key x) (ap key (sym same))) ∙ ap (λ (y : X). Some y) same
      | inr later ↦ find_later (λ other. bytes_eq (key w) (key other)) x xs (All-contains (λ other. bytes_eq (key other) (key x) ≡ false) xs w a.0 later) ∙ find_own key xs w a.1 later
    ]

-- and stands at its place
place_here : {X : Type 0} (p : X → Bool) (x : X) (xs : List X) → p x ≡ true → position_or_len p (x ∷ xs) ≡ 0
place_here p x xs h = ap (λ t. cond (not t) (1 + position_or_len p xs) 0) h

place_later : {X : Type 0} (p : X → Bool) (x : X) (xs : List X) → p x ≡ false → position_or_len p (x ∷ xs) ≡ 1 + position_or_len p xs
place_later p x xs h = ap (λ t. cond (not t) (1 + position_or_len p xs) 0) h

pub own_place : {X : Type 0} (key : X → List ℕ) (xs : List X) (k : ℕ) (d : X) → AreApart key xs → k < length xs → position_or_len (λ other. bytes_eq (key (get_or xs k d)) (key other)) xs ≡ k
own_place key [] k d a below = absurd (omega (arith, below))
own_place key (x ∷ xs) zero d a below = place_here (λ other. bytes_eq (key x) (key other)) x xs (bytes_same (key x) (key x) refl)
own_place key (x ∷ xs) (suc k) d a below =
    let later : k < length xs = omega (arith, below) in
    let e : 1 + k ≡ suc k = omega arith in
    place_later (λ other. bytes_eq (key (get_or xs k d)) (key other)) x xs (a.0 k d later) ∙ (ap (λ n. 1 + n) (own_place key xs k d a.1 later) ∙ e)

-- of two lists in a row
pub apart_back : {X : Type 0} (key : X → List ℕ) (xs ys : List X) → AreApart key (xs ++ ys) → AreApart key ys
apart_back key [] ys a = a
apart_back key (x ∷ xs) ys a = apart_back key xs ys a.1

pub apart_front : {X : Type 0} (key : X → List ℕ) (xs ys : List X) → AreApart key (xs ++ ys) → AreApart key xs
apart_front key [] ys a = tt
apart_front key (x ∷ xs) ys a = (All-front (λ other. bytes_eq (key other) (key x) ≡ false) xs ys a.0, apart_front key xs ys a.1)

-- a name of the second isn't one of the first
not_before : {X : Type 0} (key : X → List ℕ) (name : List ℕ) (x y : X) → bytes_eq (key y) (key x) ≡ false → name ≡ key y → bytes_eq name (key x) ≡ false
not_before key name x y h e = ap (λ n. bytes_eq n (key x)) e ∙ h

none_first : (one other : Bool) → one ≡ false → other ≡ false → (one || other) ≡ false
none_first false other h k = k
none_first true other h k = absurd (cc h)

pub not_in_front : {X : Type 0} (key : X → List ℕ) (xs ys : List X) (y : X) (name : List ℕ) → AreApart key (xs ++ ys) → Contains ys y → name ≡ key y → list_any (λ other. bytes_eq name (key other)) xs ≡ false
not_in_front key [] ys y name a held e = refl
not_in_front key (x ∷ xs) ys y name a held e =
    let here = All-contains (λ other. bytes_eq (key other) (key x) ≡ false) ys y (All-back (λ other. bytes_eq (key other) (key x) ≡ false) xs ys a.0) held in
    none_first (bytes_eq name (key x)) (list_any (λ other. bytes_eq name (key other)) xs) (not_before key name x y here e) (not_in_front key xs ys y name a.1 held e)
