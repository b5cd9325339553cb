-- Values that are made of others: what is so of their bytes.
use Rattle.std.proofs.Common.{◌≡◌, ℕ, ◌<◌, ◌^◌, List, [], ◌∷◌, ◌++◌, length, All, refl, sym, ap, subst, ◌∙◌, arith, append_assoc}
use Rattle.std.specs.List.{flat_map}
use Rattle.std.proofs.lemmas.List.{append_cancel_left, flat_map_more}
use Rattle.std.proofs.lemmas.List.Elements.{All-head, All-nil, All-push, All-tail}
use Rattle.byteorder.specs.Numbers.{big_number-reads_back}
use Rattle.byteorder.specs.Endian.{big_from}
use Rattle.byte_form.specs.Codes.{number_bytes, both_bytes, BothFit, list_bytes, ListFits, HasItems, IsPrefixCode, BeginsWith, BeginsNone}

-- numbers of n bytes
number_one : (n : ℕ) (x y : ℕ) (after other : List ℕ) → x < 256 ^ n → y < 256 ^ n → number_bytes n x ++ after ≡ number_bytes n y ++ other → x ≡ y
number_one n x y after other small low same =
    sym (big_number-reads_back n x after small) ∙ (ap (big_from 0 n) same ∙ big_number-reads_back n y other low)

pub number_code : (n : ℕ) → IsPrefixCode (number_bytes n) (λ x. x < 256 ^ n)
number_code n = record { one = number_one n }

-- what is left after one of two values is what is left after the other
pub same_left : {X : Type 0} (bytes : X → List ℕ) (Fits : X → Type 0) → IsPrefixCode bytes Fits → (x y : X) (after other : List ℕ) → Fits x → Fits y → bytes x ++ after ≡ bytes y ++ other → after ≡ other
same_left {X} bytes Fits code x y after other fits fit same =
    let e = code.one x y after other fits fit same in
    append_cancel_left (bytes y) after other (subst (λ z. bytes z ++ after ≡ bytes y ++ other) e same)

-- a value of which each is one of another kind
pub code_by : {X A : Type 0} (bytes : X → List ℕ) (Fits : X → Type 0) (bytes_a : A → List ℕ) (FitsA : A → Type 0) (to : X → A) → IsPrefixCode bytes_a FitsA → ((x : X) → bytes x ≡ bytes_a (to x)) → ((x : X) → Fits x → FitsA (to x)) → ((x y : X) → to x ≡ to y → x ≡ y) → IsPrefixCode bytes Fits
code_by {X} {A} bytes Fits bytes_a FitsA to code is fits same_by = record {
  one = λ x y after other fit fit_too same. same_by x y (code.one (to x) (to y) after other (fits x fit) (fits y fit_too) (ap (λ b. b ++ after) (sym (is x)) ∙ (same ∙ ap (λ b. b ++ other) (is y))));
}

-- two values, one and then the other
abbrev with_first : {A B : Type 0} → B → A → A × B
with_first {A} {B} b a = (a, b)

abbrev with_second : {A B : Type 0} → A → B → A × B
with_second {A} {B} a b = (a, b)

same_both : {A B : Type 0} (x y : A × B) → x.0 ≡ y.0 → x.1 ≡ y.1 → x ≡ y
same_both {A} {B} x y first second = ap (with_first x.1) first ∙ ap (with_second y.0) second

both_one : {A B : Type 0} (bytes_a : A → List ℕ) (FitsA : A → Type 0) (bytes_b : B → List ℕ) (FitsB : B → Type 0) → IsPrefixCode bytes_a FitsA → IsPrefixCode bytes_b FitsB → (x y : A × B) (after other : List ℕ) → BothFit FitsA FitsB x → BothFit FitsA FitsB y → both_bytes bytes_a bytes_b x ++ after ≡ both_bytes bytes_a bytes_b y ++ other → x ≡ y
both_one {A} {B} bytes_a FitsA bytes_b FitsB code_a code_b x y after other fits fit same =
    let moved = sym (append_assoc (bytes_a x.0) (bytes_b x.1) after) ∙ (same ∙ append_assoc (bytes_a y.0) (bytes_b y.1) other) in
    let first = code_a.one x.0 y.0 (bytes_b x.1 ++ after) (bytes_b y.1 ++ other) fits.0 fit.0 moved in
    let left = same_left bytes_a FitsA code_a x.0 y.0 (bytes_b x.1 ++ after) (bytes_b y.1 ++ other) fits.0 fit.0 moved in
    let second = code_b.one x.1 y.1 after other fits.1 fit.1 left in
    same_both x y first second

pub both_code : {A B : Type 0} (bytes_a : A → List ℕ) (FitsA : A → Type 0) (bytes_b : B → List ℕ) (FitsB : B → Type 0) → IsPrefixCode bytes_a FitsA → IsPrefixCode bytes_b FitsB → IsPrefixCode (both_bytes bytes_a bytes_b) (BothFit FitsA FitsB)
both_code {A} {B} bytes_a FitsA bytes_b FitsB code_a code_b = record { one = both_one bytes_a FitsA bytes_b FitsB code_a code_b }

-- lists of as many values
items_one : {X : Type 0} (bytes : X → List ℕ) (Fits : X → Type 0) → IsPrefixCode bytes Fits → (xs ys : List X) (after other : List ℕ) → length xs ≡ length ys → All Fits xs → All Fits ys → flat_map bytes xs ++ after ≡ flat_map bytes ys ++ other → xs ≡ ys
items_one {X} bytes Fits code [] [] after other count all each same = refl
items_one {X} bytes Fits code [] (y ∷ ys) after other count all each same = absurd (omega (arith, count))
items_one {X} bytes Fits code (x ∷ xs) [] after other count all each same = absurd (omega (arith, count))
items_one {X} bytes Fits code (x ∷ xs) (y ∷ ys) after other count all each same =
    let moved = sym (append_assoc (bytes x) (flat_map bytes xs) after) ∙ (same ∙ append_assoc (bytes y) (flat_map bytes ys) other) in
    let fits = All-head Fits x xs all in
    let fit = All-head Fits y ys each in
    let left = same_left bytes Fits code x y (flat_map bytes xs ++ after) (flat_map bytes ys ++ other) fits fit moved in
    let rest = items_one bytes Fits code xs ys after other (omega (arith, count)) (All-tail Fits x xs all) (All-tail Fits y ys each) left in
    let first = code.one x y (flat_map bytes xs ++ after) (flat_map bytes ys ++ other) fits fit moved in
    cc

count_fits : (n : ℕ) → n < 2 ^ 64 → n < 256 ^ 8
count_fits n small = omega (arith, small)

list_one : {X : Type 0} (bytes : X → List ℕ) (Fits : X → Type 0) → IsPrefixCode bytes Fits → (xs ys : List X) (after other : List ℕ) → ListFits Fits xs → ListFits Fits ys → list_bytes bytes xs ++ after ≡ list_bytes bytes ys ++ other → xs ≡ ys
list_one {X} bytes Fits code xs ys after other fits fit same =
    let moved = sym (append_assoc (number_bytes 8 (length xs)) (flat_map bytes xs) after) ∙ (same ∙ append_assoc (number_bytes 8 (length ys)) (flat_map bytes ys) other) in
    let small = count_fits (length xs) fits.count in
    let low = count_fits (length ys) fit.count in
    let count = number_one 8 (length xs) (length ys) (flat_map bytes xs ++ after) (flat_map bytes ys ++ other) small low moved in
    let left = same_left (number_bytes 8) (λ x. x < 256 ^ 8) (number_code 8) (length xs) (length ys) (flat_map bytes xs ++ after) (flat_map bytes ys ++ other) small low moved in
    items_one bytes Fits code xs ys after other count fits.each fit.each left

pub list_code : {X : Type 0} (bytes : X → List ℕ) (Fits : X → Type 0) → IsPrefixCode bytes Fits → IsPrefixCode (list_bytes bytes) (ListFits Fits)
list_code {X} bytes Fits code = record { one = list_one bytes Fits code }

-- no value begins where what follows its first part doesn't
pub next_none : {X A : Type 0} (bytes : X → List ℕ) (Fits : X → Type 0) (bytes_a : A → List ℕ) (FitsA : A → Type 0) (part : X → A) (rest : X → List ℕ) (text : List ℕ) (a : A) (left : List ℕ) → ((x : X) → bytes x ≡ bytes_a (part x) ++ rest x) → ((x : X) → Fits x → FitsA (part x)) → IsPrefixCode bytes_a FitsA → BeginsWith bytes_a FitsA text a left → BeginsNone rest (λ x. Fits x × (part x ≡ a)) left → BeginsNone bytes Fits text
next_none {X} {A} bytes Fits bytes_a FitsA part rest text a left is fits code first h = record {
  none = λ x after begins.
      let same = sym first.text_is ∙ (begins.text_is ∙ (ap (λ b. b ++ after) (is x) ∙ append_assoc (bytes_a (part x)) (rest x) after)) in
      let e = code.one a (part x) left (rest x ++ after) first.fits (fits x begins.fits) same in
      let rest_is = same_left bytes_a FitsA code a (part x) left (rest x ++ after) first.fits (fits x begins.fits) same in
      h.none x after (record { fits = (begins.fits, sym e); text_is = rest_is });
}

-- lists whose first values were read, and no value follows
items_none : {X : Type 0} (bytes : X → List ℕ) (Fits : X → Type 0) → IsPrefixCode bytes Fits → (items xs : List X) (left after : List ℕ) → length items < length xs → All Fits items → All Fits xs → flat_map bytes items ++ left ≡ flat_map bytes xs ++ after → BeginsNone bytes Fits left → ⊥
items_none {X} bytes Fits code items [] left after fewer all each same h = absurd (omega (arith, fewer))
items_none {X} bytes Fits code [] (x ∷ xs) left after fewer all each same h =
    h.none x (flat_map bytes xs ++ after) (record { fits = All-head Fits x xs each; text_is = same ∙ append_assoc (bytes x) (flat_map bytes xs) after })
items_none {X} bytes Fits code (i ∷ items) (x ∷ xs) left after fewer all each same h =
    let moved = sym (append_assoc (bytes i) (flat_map bytes items) left) ∙ (same ∙ append_assoc (bytes x) (flat_map bytes xs) after) in
    let rest = same_left bytes Fits code i x (flat_map bytes items ++ left) (flat_map bytes xs ++ after) (All-head Fits i items all) (All-head Fits x xs each) moved in
    items_none bytes Fits code items xs left after (omega (arith, fewer)) (All-tail Fits i items all) (All-tail Fits x xs each) rest h

-- the first values of a list
pub no_items : {X : Type 0} (bytes : X → List ℕ) (Fits : X → Type 0) (text : List ℕ) → HasItems bytes Fits text [] text
no_items {X} bytes Fits text = record { each = All-nil Fits; text_is = refl }

pub more_items : {X : Type 0} (bytes : X → List ℕ) (Fits : X → Type 0) (text : List ℕ) (items : List X) (left : List ℕ) (x : X) (new : List ℕ) → HasItems bytes Fits text items left → BeginsWith bytes Fits left x new → HasItems bytes Fits text (items ++ x ∷ []) new
more_items {X} bytes Fits text items left x new so_far next = record {
  each = All-push Fits items x so_far.each next.fits;
  text_is = so_far.text_is ∙ (ap (λ l. flat_map bytes items ++ l) next.text_is ∙ (sym (append_assoc (flat_map bytes items) (bytes x) new) ∙ ap (λ l. l ++ new) (flat_map_more bytes [] items x)));
}

-- all of a list's values were read
pub list_begins : {X : Type 0} (bytes : X → List ℕ) (Fits : X → Type 0) (old text : List ℕ) (items : List X) (left : List ℕ) (count : ℕ) → old ≡ number_bytes 8 count ++ text → count < 2 ^ 64 → length items ≡ count → HasItems bytes Fits text items left → BeginsWith (list_bytes bytes) (ListFits Fits) old items left
list_begins {X} bytes Fits old text items left count old_is small all items_are = record {
  fits = record { count = omega (arith, small, all); each = items_are.each };
  text_is = old_is ∙ (ap (λ t. number_bytes 8 count ++ t) items_are.text_is ∙ (sym (append_assoc (number_bytes 8 count) (flat_map bytes items) left) ∙ ap (λ n. (number_bytes 8 n ++ flat_map bytes items) ++ left) (sym all)));
}

-- the next of a list's values doesn't begin
pub list_none : {X : Type 0} (bytes : X → List ℕ) (Fits : X → Type 0) → IsPrefixCode bytes Fits → (old text : List ℕ) (items : List X) (left : List ℕ) (count : ℕ) → old ≡ number_bytes 8 count ++ text → count < 2 ^ 64 → length items < count → HasItems bytes Fits text items left → BeginsNone bytes Fits left → BeginsNone (list_bytes bytes) (ListFits Fits) old
list_none {X} bytes Fits code old text items left count old_is small fewer so_far h = record {
  none = λ xs after begins.
      let same = sym old_is ∙ (begins.text_is ∙ append_assoc (number_bytes 8 (length xs)) (flat_map bytes xs) after) in
      let low = count_fits count small in
      let lower = count_fits (length xs) begins.fits.count in
      let counts = number_one 8 count (length xs) text (flat_map bytes xs ++ after) low lower same in
      let rest = same_left (number_bytes 8) (λ x. x < 256 ^ 8) (number_code 8) count (length xs) text (flat_map bytes xs ++ after) low lower same in
      items_none bytes Fits code items xs left after (omega (arith, fewer, counts)) so_far.each begins.fits.each (sym so_far.text_is ∙ rest) h;
}
