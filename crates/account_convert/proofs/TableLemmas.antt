-- What a table says after an account's last record: each number's last mention.
use Rattle.std.proofs.Common.{◌≡◌, ◌≢◌, ℕ, zero, suc, ◌+◌, ◌-◌, ◌<◌, ◌≤◌, ◌&&◌, ◌||◌, eqb, not, Bool, true, false, cond, List, [], ◌∷◌, ◌++◌, length, filter, get_or, refl, sym, ap, subst, ◌∙◌, inl, inr, arith, length-append}
use Rattle.std.specs.Prelude.{nat_lt, slice_set}
use Rattle.std.specs.List.{flat_map, range_with_len}
use Rattle.std.proofs.lemmas.Bool.{cases_lt, lt-ltb}
use Rattle.std.proofs.lemmas.Bool.Decides.{eqb_tells}
use Rattle.std.proofs.lemmas.List.{append-nil, get_or-set_other, get_or-set_same, length-set, get_or_append_left, get_or-append-add}
use Rattle.std.proofs.lemmas.List.Elements.{filter-append}
use Rattle.std.proofs.lemmas.List.Folds.{list_any-append}
use Rattle.account_convert.specs.Conversions.{is_among, last_named, one_if}
use Rattle.account_convert.specs.Tables.{all_mentioned, mentioned, numbers_at, table_after, table_from, with_given}

-- filters of numbers in a row

pub filter_same : (p q : ℕ → Bool) (a n : ℕ) → ((f : ℕ) → a ≤ f → f < a + n → p f ≡ q f) → filter p (range_with_len a n) ≡ filter q (range_with_len a n)
filter_same p q a zero same = refl
filter_same p q a (suc n) same =
    let rest = filter_same p q (a + 1) n (λ f low high. same f (omega (arith, low)) (omega (arith, high))) in
    ap (λ l. cond (p a) (a ∷ l) l) rest ∙ ap (λ b. cond b (a ∷ filter q (range_with_len (a + 1) n)) (filter q (range_with_len (a + 1) n))) (same a (omega arith) (omega arith))

pub filter_none : (p : ℕ → Bool) (a n : ℕ) → ((f : ℕ) → a ≤ f → f < a + n → p f ≡ false) → filter p (range_with_len a n) ≡ []
filter_none p a zero none = refl
filter_none p a (suc n) none =
    ap (λ b. cond b (a ∷ filter p (range_with_len (a + 1) n)) (filter p (range_with_len (a + 1) n))) (none a (omega arith) (omega arith))
    ∙ filter_none p (a + 1) n (λ f low high. none f (omega (arith, low)) (omega (arith, high)))

range_append : (a n m : ℕ) → range_with_len a (n + m) ≡ range_with_len a n ++ range_with_len (a + n) m
range_append a zero m =
    let none : 0 + m ≡ m = omega arith in
    let same : a ≡ a + 0 = omega arith in
    ap (range_with_len a) none ∙ ap (λ b. range_with_len b m) same
range_append a (suc n) m =
    let one : suc n + m ≡ suc (n + m) = omega arith in
    ap (range_with_len a) one ∙ ap (λ l. a ∷ l) (range_append (a + 1) n m ∙ ap (λ b. range_with_len (a + 1) n ++ range_with_len b m) (let e : a + 1 + n ≡ a + suc n = omega arith in e))

-- one number that is named

mentioned_length : (record_number : ℕ) (table : List ℕ) (number : ℕ) → length (mentioned record_number table number) ≡ length table
mentioned_length record_number table number = by (nat_lt number (length table))
  where
    by : (b : Bool) → length (cond b (slice_set table number record_number) table) ≡ length table
    by true = length-set table number record_number
    by false = refl

mentioned_at : (record_number : ℕ) (table : List ℕ) (number f : ℕ) → f < length table → get_or (mentioned record_number table number) f 0 ≡ cond (eqb number f) record_number (get_or table f 0)
mentioned_at record_number table number f below = elim (eqb_tells number f) [
  | inl (test, e) ↦
      let there : nat_lt number (length table) ≡ true = lt-ltb number (length table) (omega (arith, e, below)) in
      ap (λ b. get_or (cond b (slice_set table number record_number) table) f 0) there
      ∙ (subst (λ n. get_or (slice_set table number record_number) n 0 ≡ record_number) e (get_or-set_same table number record_number 0 (omega (arith, e, below)))
      ∙ ap (λ b. cond b record_number (get_or table f 0)) (sym test))
  | inr (test, other) ↦ by other (nat_lt number (length table)) ∙ ap (λ b. cond b record_number (get_or table f 0)) (sym test)
]
  where
    by : number ≢ f → (b : Bool) → get_or (cond b (slice_set table number record_number) table) f 0 ≡ get_or table f 0
    by other true = get_or-set_other table number f record_number 0 (λ e. other (sym e))
    by other false = refl

-- all that a record names

named_length : (record_number : ℕ) (table : List ℕ) (numbers : List ℕ) → length (all_mentioned record_number table numbers) ≡ length table
named_length record_number table [] = refl
named_length record_number table (number ∷ numbers) = named_length record_number (mentioned record_number table number) numbers ∙ mentioned_length record_number table number

named_at : (record_number : ℕ) (table : List ℕ) (numbers : List ℕ) (f : ℕ) → f < length table → get_or (all_mentioned record_number table numbers) f 0 ≡ cond (is_among numbers f) record_number (get_or table f 0)
named_at record_number table [] f below = refl
named_at record_number table (number ∷ numbers) f below =
    named_at record_number (mentioned record_number table number) numbers f (omega (arith, below, mentioned_length record_number table number))
    ∙ (ap (cond (is_among numbers f) record_number) (mentioned_at record_number table number f below)
    ∙ by (eqb number f) (is_among numbers f))
  where
    by : (b c : Bool) → cond c record_number (cond b record_number (get_or table f 0)) ≡ cond (b || c) record_number (get_or table f 0)
    by true true = refl
    by true false = refl
    by false c = refl

-- one record more

module _ {X : Type 0} (names : X → List ℕ) (gives : X → Bool) where
  pub after_length : (record_number : ℕ) (table : List ℕ) (entry : X) → length (table_after names gives record_number table entry) ≡ length table + one_if (gives entry)
  after_length record_number table entry = by (gives entry)
    where
      by : (b : Bool) → length (with_given record_number b (all_mentioned record_number table (names entry))) ≡ length table + one_if b
      by true = omega (arith, length-append (all_mentioned record_number table (names entry)) (record_number ∷ []), named_length record_number table (names entry))
      by false = omega (arith, named_length record_number table (names entry))

  after_at : (record_number : ℕ) (table : List ℕ) (entry : X) (f : ℕ) → f < length table → get_or (table_after names gives record_number table entry) f 0 ≡ cond (is_among (names entry) f) record_number (get_or table f 0)
  after_at record_number table entry f below = by (gives entry) ∙ named_at record_number table (names entry) f below
    where
      by : (b : Bool) → get_or (with_given record_number b (all_mentioned record_number table (names entry))) f 0 ≡ get_or (all_mentioned record_number table (names entry)) f 0
      by true = get_or_append_left (all_mentioned record_number table (names entry)) (record_number ∷ []) 0 f (omega (arith, below, named_length record_number table (names entry)))
      by false = refl

  given_at : (record_number : ℕ) (table : List ℕ) (entry : X) (f : ℕ) → length table ≤ f → f < length (table_after names gives record_number table entry) → get_or (table_after names gives record_number table entry) f 0 ≡ record_number
  given_at record_number table entry f low high = by (gives entry) refl
    where
      by : (b : Bool) → gives entry ≡ b → get_or (with_given record_number b (all_mentioned record_number table (names entry))) f 0 ≡ record_number
      by true e =
          let count : length (all_mentioned record_number table (names entry)) + 0 ≡ f = omega (arith, low, high, after_length record_number table entry, ap one_if e, named_length record_number table (names entry)) in
          ap (λ n. get_or (all_mentioned record_number table (names entry) ++ record_number ∷ []) n 0) (sym count) ∙ get_or-append-add (all_mentioned record_number table (names entry)) (record_number ∷ []) 0 0
      by false e = absurd (omega (arith, low, high, after_length record_number table entry, ap one_if e))

  -- all later records

  longer : (later : List X) (record_number : ℕ) (table : List ℕ) → length table ≤ length (table_from names gives record_number table later)
  longer [] record_number table = omega arith
  longer (entry ∷ later) record_number table = omega (arith, longer later (record_number + 1) (table_after names gives record_number table entry), after_length record_number table entry)

  unnamed : (later : List X) (record_number : ℕ) (table : List ℕ) (f : ℕ) → f < length table → is_among (flat_map names later) f ≡ false → get_or (table_from names gives record_number table later) f 0 ≡ get_or table f 0
  unnamed [] record_number table f below none = refl
  unnamed (entry ∷ later) record_number table f below none =
      let next = table_after names gives record_number table entry in
      by (λ then. unnamed later (record_number + 1) next f (omega (arith, below, after_length record_number table entry)) then) (is_among (names entry) f) (is_among (flat_map names later) f) refl refl (sym (list_any-append (λ other. eqb other f) (names entry) (flat_map names later)) ∙ none)
    where
      next : List ℕ
      next = table_after names gives record_number table entry

      by : (is_among (flat_map names later) f ≡ false → get_or (table_from names gives (record_number + 1) next later) f 0 ≡ get_or next f 0) → (b c : Bool) → is_among (names entry) f ≡ b → is_among (flat_map names later) f ≡ c → (b || c) ≡ false → get_or (table_from names gives (record_number + 1) next later) f 0 ≡ get_or table f 0
      by rest true c is then e = cc
      by rest false true is then e = cc
      by rest false false is then e =
          rest then
          ∙ (after_at record_number table entry f below ∙ ap (λ b. cond b record_number (get_or table f 0)) is)

  named_later : (later : List X) (record_number : ℕ) (table : List ℕ) (f : ℕ) → f < length table → is_among (flat_map names later) f ≡ true → record_number ≤ get_or (table_from names gives record_number table later) f 0
  named_later [] record_number table f below some = cc
  named_later (entry ∷ later) record_number table f below some =
      let next = table_after names gives record_number table entry in
      by (λ then. named_later later (record_number + 1) next f (omega (arith, below, after_length record_number table entry)) then) (is_among (names entry) f) (is_among (flat_map names later) f) refl refl (sym (list_any-append (λ other. eqb other f) (names entry) (flat_map names later)) ∙ some)
    where
      next : List ℕ
      next = table_after names gives record_number table entry

      within : f < length next
      within = omega (arith, below, after_length record_number table entry)

      by : (is_among (flat_map names later) f ≡ true → record_number + 1 ≤ get_or (table_from names gives (record_number + 1) next later) f 0) → (b c : Bool) → is_among (names entry) f ≡ b → is_among (flat_map names later) f ≡ c → (b || c) ≡ true → record_number ≤ get_or (table_from names gives (record_number + 1) next later) f 0
      by rest b true is then e = omega (arith, rest then)
      by rest true false is then e =
          let same = unnamed later (record_number + 1) next f within then in
          let here = after_at record_number table entry f below ∙ ap (λ t. cond t record_number (get_or table f 0)) is in
          omega (arith, same, here)
      by rest false false is then e = cc

  pub given_later : (later : List X) (record_number : ℕ) (table : List ℕ) (f : ℕ) → length table ≤ f → f < length (table_from names gives record_number table later) → record_number ≤ get_or (table_from names gives record_number table later) f 0
  given_later [] record_number table f low high = absurd (omega (arith, low, high))
  given_later (entry ∷ later) record_number table f low high = elim (cases_lt f (length (table_after names gives record_number table entry))) [
    | inl below ↦
        let next = table_after names gives record_number table entry in
        by (is_among (flat_map names later) f) refl below
    | inr past ↦ omega (arith, given_later later (record_number + 1) (table_after names gives record_number table entry) f past high)
  ]
    where
      by : (c : Bool) → is_among (flat_map names later) f ≡ c → f < length (table_after names gives record_number table entry) → record_number ≤ get_or (table_from names gives (record_number + 1) (table_after names gives record_number table entry) later) f 0
      by true then below = omega (arith, named_later later (record_number + 1) (table_after names gives record_number table entry) f below then)
      by false then below = omega (arith, unnamed later (record_number + 1) (table_after names gives record_number table entry) f below then, given_at record_number table entry f low below)

  -- The numbers that a table has at a record are those that it is the last to give or to name.
  pub numbers_last : (entry : X) (later : List X) (record_number : ℕ) (table : List ℕ) → ((f : ℕ) → f < length table → get_or table f 0 < record_number)
      → numbers_at record_number (table_from names gives record_number table (entry ∷ later)) ≡ last_named (length table) (gives entry) (names entry) (flat_map names later)
  numbers_last entry later record_number table before =
      ap (λ n. filter (λ f. eqb (get_or final f 0) record_number) (range_with_len 0 n)) all
      ∙ (ap (filter (λ f. eqb (get_or final f 0) record_number)) (range_append 0 count (length final - count) ∙ ap (λ n. range_with_len 0 count ++ range_with_len n (length final - count)) (let from : 0 + count ≡ count = omega arith in from))
      ∙ (filter-append (λ f. eqb (get_or final f 0) record_number) (range_with_len 0 count) (range_with_len count (length final - count))
      ∙ (ap (λ l. filter (λ f. eqb (get_or final f 0) record_number) (range_with_len 0 count) ++ l) (filter_none (λ f. eqb (get_or final f 0) record_number) count (length final - count) past)
      ∙ (append-nil (filter (λ f. eqb (get_or final f 0) record_number) (range_with_len 0 count))
      ∙ filter_same (λ f. eqb (get_or final f 0) record_number) (λ f. (eqb f (length table) || is_among (names entry) f) && not (is_among (flat_map names later) f)) 0 count (λ f low high. here f (omega (arith, high)))))))
    where
      next : List ℕ
      next = table_after names gives record_number table entry

      final : List ℕ
      final = table_from names gives (record_number + 1) next later

      count : ℕ
      count = length table + one_if (gives entry)

      count_is : length next ≡ count
      count_is = after_length record_number table entry

      all : length final ≡ count + (length final - count)
      all = omega (arith, longer later (record_number + 1) next, count_is)

      above : (v : ℕ) → record_number + 1 ≤ v → eqb v record_number ≡ false
      above v more = elim (eqb_tells v record_number) [ inl (test, e) ↦ absurd (omega (arith, e, more)) | inr (test, other) ↦ test ]

      below_number : (v : ℕ) → v < record_number → eqb v record_number ≡ false
      below_number v less = elim (eqb_tells v record_number) [ inl (test, e) ↦ absurd (omega (arith, e, less)) | inr (test, other) ↦ test ]

      same_number : (v : ℕ) → v ≡ record_number → eqb v record_number ≡ true
      same_number v is = elim (eqb_tells v record_number) [ inl (test, e) ↦ test | inr (test, other) ↦ absurd (other is) ]

      past : (f : ℕ) → count ≤ f → f < count + (length final - count) → eqb (get_or final f 0) record_number ≡ false
      past f low high = above (get_or final f 0) (given_later later (record_number + 1) next f (omega (arith, low, count_is)) (omega (arith, high, all)))

      old : (f : ℕ) → f < length table → (b : Bool) → is_among (names entry) f ≡ b → eqb (get_or next f 0) record_number ≡ (eqb f (length table) || b)
      old f less b is =
          let first : eqb f (length table) ≡ false = elim (eqb_tells f (length table)) [ inl (test, e) ↦ absurd (omega (arith, e, less)) | inr (test, other) ↦ test ] in
          ap (λ v. eqb v record_number) (after_at record_number table entry f less ∙ ap (λ c. cond c record_number (get_or table f 0)) is) ∙ (by b ∙ ap (λ c. c || b) (sym first))
        where
          by : (c : Bool) → eqb (cond c record_number (get_or table f 0)) record_number ≡ c
          by true = same_number record_number refl
          by false = below_number (get_or table f 0) (before f less)

      new : (f : ℕ) → length table ≤ f → f < count → eqb (get_or next f 0) record_number ≡ (eqb f (length table) || is_among (names entry) f)
      new f low high =
          let only : f ≡ length table = omega (arith, low, high, at_most (gives entry)) in
          let first : eqb f (length table) ≡ true = elim (eqb_tells f (length table)) [ inl (test, e) ↦ test | inr (test, other) ↦ absurd (other only) ] in
          same_number (get_or next f 0) (given_at record_number table entry f low (omega (arith, high, count_is))) ∙ ap (λ c. c || is_among (names entry) f) (sym first)
        where
          at_most : (b : Bool) → one_if b ≤ 1
          at_most true = omega arith
          at_most false = omega arith

      at_next : (f : ℕ) → f < count → eqb (get_or next f 0) record_number ≡ (eqb f (length table) || is_among (names entry) f)
      at_next f high = elim (cases_lt f (length table)) [ inl less ↦ old f less (is_among (names entry) f) refl | inr low ↦ new f low high ]

      here : (f : ℕ) → f < count → eqb (get_or final f 0) record_number ≡ ((eqb f (length table) || is_among (names entry) f) && not (is_among (flat_map names later) f))
      here f high = by (is_among (flat_map names later) f) refl
        where
          with_true : (b : Bool) → b ≡ (b && true)
          with_true true = refl
          with_true false = refl

          with_false : (b : Bool) → false ≡ (b && false)
          with_false true = refl
          with_false false = refl

          by : (c : Bool) → is_among (flat_map names later) f ≡ c → eqb (get_or final f 0) record_number ≡ ((eqb f (length table) || is_among (names entry) f) && not c)
          by true then = above (get_or final f 0) (named_later later (record_number + 1) next f (omega (arith, high, count_is)) then) ∙ with_false (eqb f (length table) || is_among (names entry) f)
          by false then = ap (λ v. eqb v record_number) (unnamed later (record_number + 1) next f (omega (arith, high, count_is)) then) ∙ (at_next f high ∙ with_true (eqb f (length table) || is_among (names entry) f))

  -- each number of a table is below the next record's
  pub stays_below : (entry : X) (record_number : ℕ) (table : List ℕ) → ((f : ℕ) → f < length table → get_or table f 0 < record_number) → (f : ℕ) → f < length (table_after names gives record_number table entry) → get_or (table_after names gives record_number table entry) f 0 < record_number + 1
  stays_below entry record_number table before f within = elim (cases_lt f (length table)) [
    | inl less ↦ by (is_among (names entry) f) less (after_at record_number table entry f less)
    | inr low ↦ omega (arith, given_at record_number table entry f low within)
  ]
    where
      by : (b : Bool) → f < length table → get_or (table_after names gives record_number table entry) f 0 ≡ cond b record_number (get_or table f 0) → get_or (table_after names gives record_number table entry) f 0 < record_number + 1
      by true less is = omega (arith, is)
      by false less is = omega (arith, is, before f less)
