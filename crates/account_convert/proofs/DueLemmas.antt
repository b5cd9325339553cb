-- What is due after which record.
use Rattle.std.proofs.Common.{◌≡◌, ◌≢◌, ℕ, All, Less, Equal, Greater, suc, ◌+◌, ◌<◌, ◌≤◌, ◌&&◌, eqb, not, Bool, true, false, cond, List, [], ◌∷◌, length, map, filter, get_or, refl, sym, ap, subst, ◌∙◌, inl, inr, arith}
use Rattle.std.specs.List.{range_with_len}
use Rattle.std.specs.Prelude.{nat_lt}
use Rattle.std.specs.List.Sorted.{IsNonDecreasingBy, IsStableByKey}
use Rattle.std.specs.Ordering.{is_lt, nat_cmp}
use Rattle.std.proofs.lemmas.List.Elements.{All-head, All-tail}
use Rattle.std.proofs.lemmas.List.FromFn.{get_or-range_with_len, length-range_with_len}
use Rattle.std.proofs.lemmas.Bool.{cases_lt, lt-ltb, le-ltb}
use Rattle.std.proofs.lemmas.Bool.Decides.{eqb_tells}
use Rattle.account_convert.specs.declared.dues.Due.{Due}
use Rattle.account_convert.specs.Tables.{AreDues, due_of, is_at, listed, numbers_at}
use Rattle.account_convert.specs.Writing.{after_at, first_at}

-- what is due, in the order of the records, and none before this one
abbrev pub Ascend : ℕ → List Due → Type 0
Ascend record_number [] = Unit {0}
Ascend record_number (due ∷ dues) = (record_number ≤ due.record_number) × Ascend due.record_number dues

ascend_from : (record_number : ℕ) (dues : List Due) → ((k : ℕ) (d : Due) → k < length dues → record_number ≤ (get_or dues k d).record_number) → IsNonDecreasingBy (λ (due : Due). due.record_number) dues → Ascend record_number dues
ascend_from record_number [] above ascend = tt
ascend_from record_number (due ∷ dues) above ascend = (
  above 0 due (omega arith),
  ascend_from due.record_number dues (λ k d below. ascend 0 (suc k) d (omega arith) (omega (arith, below))) (λ i j d low below. ascend (suc i) (suc j) d (omega (arith, low)) (omega (arith, below))),
)

-- later ones may begin later
ascend_less : (record_number more : ℕ) (dues : List Due) → record_number ≤ more → Ascend more dues → Ascend record_number dues
ascend_less record_number more [] less ascend = tt
ascend_less record_number more (due ∷ dues) less ascend = (omega (arith, less, ascend.0), ascend.1)

none_at : (record_number more : ℕ) (dues : List Due) → record_number < more → Ascend more dues → filter (is_at record_number) dues ≡ []
none_at record_number more [] less ascend = refl
none_at record_number more (due ∷ dues) less ascend = elim (eqb_tells due.record_number record_number) [
  | inl (test, e) ↦ absurd (omega (arith, e, less, ascend.0))
  | inr (test, other) ↦ ap (λ b. cond b (due ∷ filter (is_at record_number) dues) (filter (is_at record_number) dues)) test ∙ none_at record_number more dues less (ascend_less more due.record_number dues ascend.0 ascend.1)
]

-- the first of what is left are those that are due after this record
pub first_is : (record_number : ℕ) (dues : List Due) → Ascend record_number dues → first_at record_number dues ≡ map (λ (due : Due). due.number) (filter (is_at record_number) dues)
first_is record_number [] ascend = refl
first_is record_number (due ∷ dues) ascend = elim (eqb_tells due.record_number record_number) [
  | inl (test, e) ↦
      let rest = first_is record_number dues (ascend_less record_number due.record_number dues ascend.0 ascend.1) in
      ap (λ b. cond b (due.number ∷ first_at record_number dues) []) test
      ∙ (ap (λ l. due.number ∷ l) rest
      ∙ ap (λ b. map (λ (d : Due). d.number) (cond b (due ∷ filter (is_at record_number) dues) (filter (is_at record_number) dues))) (sym test))
  | inr (test, other) ↦
      let none = none_at record_number due.record_number dues (omega (arith, ascend.0, other)) ascend.1 in
      ap (λ b. cond b (due.number ∷ first_at record_number dues) []) test
      ∙ (ap (map (λ (d : Due). d.number)) (sym none)
      ∙ ap (λ b. map (λ (d : Due). d.number) (cond b (due ∷ filter (is_at record_number) dues) (filter (is_at record_number) dues))) (sym test))
]

-- and the others are due later
after_ascend : (record_number : ℕ) (dues : List Due) → Ascend record_number dues → Ascend (record_number + 1) (after_at record_number dues)
after_ascend record_number [] ascend = tt
after_ascend record_number (due ∷ dues) ascend = elim (eqb_tells due.record_number record_number) [
  | inl (test, e) ↦ subst (λ b. Ascend (record_number + 1) (cond b (after_at record_number dues) (due ∷ dues))) (sym test) (after_ascend record_number dues (ascend_less record_number due.record_number dues ascend.0 ascend.1))
  | inr (test, other) ↦ subst (λ b. Ascend (record_number + 1) (cond b (after_at record_number dues) (due ∷ dues))) (sym test) (omega (arith, ascend.0, other), ascend.1)
]

after_same : (record_number more : ℕ) (dues : List Due) → record_number < more → filter (is_at more) (after_at record_number dues) ≡ filter (is_at more) dues
after_same record_number more [] less = refl
after_same record_number more (due ∷ dues) less = elim (eqb_tells due.record_number record_number) [
  | inl (test, e) ↦
      let later : eqb due.record_number more ≡ false = elim (eqb_tells due.record_number more) [ inl (t, same) ↦ absurd (omega (arith, e, same, less)) | inr (t, apart) ↦ t ] in
      ap (λ b. filter (is_at more) (cond b (after_at record_number dues) (due ∷ dues))) test
      ∙ (after_same record_number more dues less
      ∙ ap (λ b. cond b (due ∷ filter (is_at more) dues) (filter (is_at more) dues)) (sym later))
  | inr (test, other) ↦ ap (λ b. filter (is_at more) (cond b (after_at record_number dues) (due ∷ dues))) test
]

-- What is left of all that is due, from a record on.
pub record IsLeft (table : List ℕ) (record_number : ℕ) (dues : List Due) : Type 0 where
  pub ascend : Ascend record_number dues
  pub as_listed : (later : ℕ) → record_number ≤ later → filter (is_at later) dues ≡ filter (is_at later) (listed table)

listed_at : (table : List ℕ) (record_number : ℕ) (numbers : List ℕ) → map (λ (due : Due). due.number) (filter (is_at record_number) (map (due_of table) numbers)) ≡ filter (λ number. eqb (get_or table number 0) record_number) numbers
listed_at table record_number [] = refl
listed_at table record_number (number ∷ numbers) = by (eqb (get_or table number 0) record_number) (listed_at table record_number numbers)
  where
    by : (b : Bool) → map (λ (due : Due). due.number) (filter (is_at record_number) (map (due_of table) numbers)) ≡ filter (λ n. eqb (get_or table n 0) record_number) numbers
        → map (λ (due : Due). due.number) (cond b (due_of table number ∷ filter (is_at record_number) (map (due_of table) numbers)) (filter (is_at record_number) (map (due_of table) numbers))) ≡ cond b (number ∷ filter (λ n. eqb (get_or table n 0) record_number) numbers) (filter (λ n. eqb (get_or table n 0) record_number) numbers)
    by true rest = ap (λ l. number ∷ l) rest
    by false rest = rest

pub left_first : (table : List ℕ) (record_number : ℕ) (dues : List Due) → IsLeft table record_number dues → first_at record_number dues ≡ numbers_at record_number table
left_first table record_number dues left =
    first_is record_number dues left.ascend
    ∙ (ap (map (λ (due : Due). due.number)) (left.as_listed record_number (omega arith))
    ∙ listed_at table record_number (range_with_len 0 (length table)))

pub left_after : (table : List ℕ) (record_number : ℕ) (dues : List Due) → IsLeft table record_number dues → IsLeft table (record_number + 1) (after_at record_number dues)
left_after table record_number dues left = record {
  ascend = after_ascend record_number dues left.ascend;
  as_listed = λ later low. after_same record_number later dues (omega (arith, low)) ∙ left.as_listed later (omega (arith, low));
}

-- where none is due after a record, all are due later
ascend_past : (record_number : ℕ) (dues : List Due) → Ascend record_number dues → filter (is_at record_number) dues ≡ [] → Ascend (record_number + 1) dues
ascend_past record_number [] ascend none = tt
ascend_past record_number (due ∷ dues) ascend none = elim (eqb_tells due.record_number record_number) [
  | inl (test, e) ↦
      let some : due ∷ filter (is_at record_number) dues ≡ [] = ap (λ b. cond b (due ∷ filter (is_at record_number) dues) (filter (is_at record_number) dues)) (sym test) ∙ none in
      absurd (let no : ⊥ = cc in no)
  | inr (test, other) ↦ (omega (arith, ascend.0, other), ascend.1)
]

unlisted : (table : List ℕ) (numbers : List ℕ) → All (λ f. 1 ≤ get_or table f 0) numbers → filter (is_at 0) (map (due_of table) numbers) ≡ []
unlisted table [] above = refl
unlisted table (number ∷ numbers) above =
    let here = All-head (λ f. 1 ≤ get_or table f 0) number numbers above in
    let test : eqb (get_or table number 0) 0 ≡ false = elim (eqb_tells (get_or table number 0) 0) [ inl (t, e) ↦ absurd (omega (arith, e, here)) | inr (t, other) ↦ t ] in
    ap (λ b. cond b (due_of table number ∷ filter (is_at 0) (map (due_of table) numbers)) (filter (is_at 0) (map (due_of table) numbers))) test
    ∙ unlisted table numbers (All-tail (λ f. 1 ≤ get_or table f 0) number numbers above)

-- At the first record all is left: records are numbered from 1.
pub left_all : (table : List ℕ) (dues : List Due) → ((f : ℕ) → f < length table → 1 ≤ get_or table f 0) → AreDues table dues → IsLeft table 1 dues
left_all table dues above are = record {
  ascend =
      let count = length-range_with_len 0 (length table) in
      let each : All (λ f. 1 ≤ get_or table f 0) (range_with_len 0 (length table)) =
      λ k d below. above (get_or (range_with_len 0 (length table)) k d) (omega (arith, below, count, get_or-range_with_len 0 (length table) k d (omega (arith, below, count)))) in
      ascend_past 0 dues (ascend_from 0 dues (λ k d below. omega arith) are.ascend) (are.as_listed 0 ∙ unlisted table (range_with_len 0 (length table)) each);
  as_listed = λ later low. are.as_listed later;
}

-- numbers that tie are equal
is_lt_is : (one other : ℕ) → is_lt (nat_cmp one other) ≡ nat_lt one other
is_lt_is one other = by (nat_lt one other) (eqb one other)
  where
    by : (b c : Bool) → is_lt (cond b Less (cond c Equal Greater)) ≡ b
    by true c = refl
    by false true = refl
    by false false = refl

tie_is : (one other : ℕ) → (not (is_lt (nat_cmp one other)) && not (is_lt (nat_cmp other one))) ≡ eqb other one
tie_is one other =
    ap (λ b. not b && not (is_lt (nat_cmp other one))) (is_lt_is one other)
    ∙ (ap (λ b. not (nat_lt one other) && not b) (is_lt_is other one)
    ∙ elim (cases_lt one other) [
      | inl less ↦ ap (λ b. not b && not (nat_lt other one)) (lt-ltb one other less) ∙ sym (apart other one (λ e. omega (arith, e, less)))
      | inr most ↦ elim (cases_lt other one) [
        | inl more ↦ ap (λ b. not b && not (nat_lt other one)) (le-ltb one other most) ∙ (ap (λ b. true && not b) (lt-ltb other one more) ∙ sym (apart other one (λ e. omega (arith, e, more))))
        | inr least ↦ ap (λ b. not b && not (nat_lt other one)) (le-ltb one other most) ∙ (ap (λ b. true && not b) (le-ltb other one least) ∙ sym (together other one (omega (arith, most, least))))
      ]
    ])
  where
    apart : (x y : ℕ) → x ≢ y → eqb x y ≡ false
    apart x y other = elim (eqb_tells x y) [ inl (test, e) ↦ absurd (other e) | inr (test, unlike) ↦ test ]

    together : (x y : ℕ) → x ≡ y → eqb x y ≡ true
    together x y same = elim (eqb_tells x y) [ inl (test, e) ↦ test | inr (test, unlike) ↦ absurd (unlike same) ]

filter_as : (p q : Due → Bool) (dues : List Due) → ((due : Due) → p due ≡ q due) → filter p dues ≡ filter q dues
filter_as p q [] same = refl
filter_as p q (due ∷ dues) same = ap (λ l. cond (p due) (due ∷ l) l) (filter_as p q dues same) ∙ ap (λ b. cond b (due ∷ filter q dues) (filter q dues)) (same due)

-- a stable sort by the records keeps the order of what is due after one record
pub sorted_dues : (table : List ℕ) (before dues : List Due) → before ≡ listed table
    → IsNonDecreasingBy (λ (due : Due). due.record_number) dues
    → IsStableByKey (λ (due : Due). due.record_number) nat_cmp before dues
    → AreDues table dues
sorted_dues table before dues is ascend stable = record {
  ascend = ascend;
  as_listed = λ record_number.
      let some : Due = record { record_number = record_number; number = 0 } in
      let same = filter_as (is_at record_number) (λ due. not (is_lt (nat_cmp record_number due.record_number)) && not (is_lt (nat_cmp due.record_number record_number))) dues (λ due. sym (tie_is record_number due.record_number)) in
      let back = filter_as (λ due. not (is_lt (nat_cmp record_number due.record_number)) && not (is_lt (nat_cmp due.record_number record_number))) (is_at record_number) before (λ due. tie_is record_number due.record_number) in
      same ∙ (stable some ∙ (back ∙ ap (filter (is_at record_number)) is));
}
