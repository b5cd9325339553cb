-- The names in a printed BLIF file: each is that of one signal alone, and its place among them is the signal.
use Rattle.std.proofs.Common.{◌≡◌, ℕ, zero, suc, ◌+◌, ◌-◌, ◌^◌, ◌<◌, ◌≤◌, ◌||◌, Bool, true, false, not, cond, List, [], ◌∷◌, ◌++◌, length, map, drop, codes, All, refl, sym, ap, ◌∙◌, inl, inr, arith}
use Rattle.std.specs.Fmt.{decimal}
use Rattle.std.specs.List.{range_with_len, position_or_len, list_any}
use Rattle.std.specs.Str.{bytes_eq}
use Rattle.std.proofs.lemmas.Bool.{cases_lt, ne_eqb, le-ltb, lt-ltb}
use Rattle.std.proofs.lemmas.Slice.Eq.{bytes_eq-Decides}
use Rattle.std.proofs.lemmas.List.{append-nil, length-append}
use Rattle.std.proofs.lemmas.List.Elements.{All-nil, All-cons, All-head, All-tail}
use Rattle.std.proofs.lemmas.List.FromFn.{length-map-range_with_len}
use Rattle.text_core.specs.Numbers.{number}
use Rattle.text_core.proofs.NumberLemmas.{number-decimal}
use Rattle.blif_reader.proofs.NumberLemmas.{any_place}
use Rattle.net_print.specs.BlifLines.{signal_name, gate_name, input_name}
use Rattle.print_laws.specs.PrintedCircuits.{printed_signal}
use Rattle.print_laws.proofs.PrintedMeaning.{input_signal, gate_signal}
use Rattle.std.proofs.lemmas.Option.{same_Some}

abbrev pub name : ℕ → ℕ → List ℕ
name letter n = letter ∷ decimal n

-- n names of a letter, from a number on
abbrev pub names : ℕ → ℕ → ℕ → List (List ℕ)
names letter a n = map (name letter) (range_with_len a n)

-- the names of the signals, in the order of the file: n inputs, the constant, g gates and m outputs
abbrev pub defined_names : ℕ → ℕ → List (List ℕ)
defined_names g m = codes "z" ∷ (names 103 0 g ++ names 111 0 m)

abbrev pub all_names : ℕ → ℕ → ℕ → List (List ℕ)
all_names n g m = names 105 0 n ++ defined_names g m

pub length-names : (letter a n : ℕ) → length (names letter a n) ≡ n
length-names letter a n = length-map-range_with_len (name letter) a n

pub same_bytes : (xs : List ℕ) → bytes_eq xs xs ≡ true
same_bytes xs = (bytes_eq-Decides xs xs).1 refl

other_bytes : (xs ys : List ℕ) → (xs ≡ ys → ⊥) → bytes_eq xs ys ≡ false
other_bytes xs ys apart = by_test (bytes_eq xs ys) (bytes_eq-Decides xs ys).0
  where
    by_test : (t : Bool) → (t ≡ true → xs ≡ ys) → t ≡ false
    by_test true h = absurd (apart (h refl))
    by_test false h = refl

decimals_apart : (a b : ℕ) → a < 2 ^ 64 → b < 2 ^ 64 → (a ≡ b → ⊥) → decimal a ≡ decimal b → ⊥
decimals_apart a b low high apart e = apart (same_Some a b (sym (number-decimal a low) ∙ ap number e ∙ number-decimal b high))

pub apart_names : (letter a b : ℕ) → a < 2 ^ 64 → b < 2 ^ 64 → (a ≡ b → ⊥) → bytes_eq (name letter a) (name letter b) ≡ false
apart_names letter a b low high apart = other_bytes (name letter a) (name letter b) (λ e. decimals_apart a b low high apart (ap (drop 1) e))

-- the place of a name among those of its letter
place_there : (letter a n k : ℕ) (rest : List (List ℕ)) → a + n < 2 ^ 64 → k < n → position_or_len (bytes_eq (name letter (a + k))) (names letter a n ++ rest) ≡ k
place_there letter a zero k rest few h = absurd (omega (arith, h))
place_there letter a (suc n) zero rest few h =
    let here : a + 0 ≡ a = omega arith in
    ap (λ x. position_or_len (bytes_eq (name letter x)) (names letter a (suc n) ++ rest)) here
    ∙ ap (λ t. cond (not t) (1 + position_or_len (bytes_eq (name letter a)) (names letter (a + 1) n ++ rest)) 0) (same_bytes (name letter a))
place_there letter a (suc n) (suc k) rest few h =
    let test = apart_names letter (a + suc k) a (omega (arith, few, h)) (omega (arith, few)) (λ e. omega (arith, e)) in
    let moved : a + suc k ≡ a + 1 + k = omega arith in
    let next : position_or_len (bytes_eq (name letter (a + suc k))) (names letter (a + 1) n ++ rest) ≡ k =
    ap (λ x. position_or_len (bytes_eq (name letter x)) (names letter (a + 1) n ++ rest)) moved
    ∙ place_there letter (a + 1) n k rest (omega (arith, few)) (omega (arith, h)) in
    ap (λ t. cond (not t) (1 + position_or_len (bytes_eq (name letter (a + suc k))) (names letter (a + 1) n ++ rest)) 0) test
    ∙ omega (arith, next)

-- a name that is none of the first ones
place_after : (w : List ℕ) (xs rest : List (List ℕ)) → All (λ x. bytes_eq w x ≡ false) xs → position_or_len (bytes_eq w) (xs ++ rest) ≡ length xs + position_or_len (bytes_eq w) rest
place_after w [] rest all = omega arith
place_after w (x ∷ xs) rest all =
    let P : List ℕ → Type 0 = λ y. bytes_eq w y ≡ false in
    ap (λ t. cond (not t) (1 + position_or_len (bytes_eq w) (xs ++ rest)) 0) (All-head P x xs all)
    ∙ omega (arith, place_after w xs rest (All-tail P x xs all))

other_letters : (w : List ℕ) (letter a n : ℕ) → ((x : ℕ) → bytes_eq w (name letter x) ≡ false) → All (λ x. bytes_eq w x ≡ false) (names letter a n)
other_letters w letter a zero apart = All-nil (λ x. bytes_eq w x ≡ false)
other_letters w letter a (suc n) apart = All-cons (λ x. bytes_eq w x ≡ false) (name letter a) (names letter (a + 1) n) (apart a) (other_letters w letter (a + 1) n apart)

module _ (n g m : ℕ) (few : n + g + m < 2 ^ 32) where
  pub input_place : (k : ℕ) → k < n → position_or_len (bytes_eq (name 105 k)) (all_names n g m) ≡ k
  input_place k h =
      let here : k ≡ 0 + k = omega arith in
      ap (λ x. position_or_len (bytes_eq (name 105 x)) (all_names n g m)) here
      ∙ place_there 105 0 n k (defined_names g m) (omega (arith, few)) h

  pub constant_place : position_or_len (bytes_eq (codes "z")) (all_names n g m) ≡ n
  constant_place =
      let first : position_or_len (bytes_eq (codes "z")) (defined_names g m) ≡ 0 = refl in
      omega (arith, place_after (codes "z") (names 105 0 n) (defined_names g m) (other_letters (codes "z") 105 0 n (λ x. refl)), length-names 105 0 n, first)

  pub gate_place : (t : ℕ) → t < g → position_or_len (bytes_eq (name 103 t)) (all_names n g m) ≡ 1 + n + t
  gate_place t h =
      let w = name 103 t in
      let here : t ≡ 0 + t = omega arith in
      let gates : position_or_len (bytes_eq w) (names 103 0 g ++ names 111 0 m) ≡ t =
      ap (λ x. position_or_len (bytes_eq (name 103 x)) (names 103 0 g ++ names 111 0 m)) here
      ∙ place_there 103 0 g t (names 111 0 m) (omega (arith, few)) h in
      let constant : position_or_len (bytes_eq w) (defined_names g m) ≡ 1 + position_or_len (bytes_eq w) (names 103 0 g ++ names 111 0 m) = refl in
      omega (arith, place_after w (names 105 0 n) (defined_names g m) (other_letters w 105 0 n (λ x. refl)), length-names 105 0 n, constant, gates)

  pub output_place : (k : ℕ) → k < m → position_or_len (bytes_eq (name 111 k)) (all_names n g m) ≡ 1 + n + g + k
  output_place k h =
      let w = name 111 k in
      let here : k ≡ 0 + k = omega arith in
      let end : names 111 0 m ≡ names 111 0 m ++ [] = sym (append-nil (names 111 0 m)) in
      let outputs : position_or_len (bytes_eq w) (names 111 0 m) ≡ k =
      ap (λ x. position_or_len (bytes_eq (name 111 x)) (names 111 0 m)) here
      ∙ ap (position_or_len (bytes_eq (name 111 (0 + k)))) end
      ∙ place_there 111 0 m k [] (omega (arith, few)) h in
      let constant : position_or_len (bytes_eq w) (defined_names g m) ≡ 1 + position_or_len (bytes_eq w) (names 103 0 g ++ names 111 0 m) = refl in
      omega (arith, place_after w (names 105 0 n) (defined_names g m) (other_letters w 105 0 n (λ x. refl)), place_after w (names 103 0 g) (names 111 0 m) (other_letters w 103 0 g (λ x. refl)), length-names 105 0 n, length-names 103 0 g, constant, outputs)

  -- the number that a signal's name has in the file
  pub signal_place : (s : ℕ) → s < 1 + n + g → 1 + position_or_len (bytes_eq (signal_name n s)) (all_names n g m) ≡ printed_signal n s
  signal_place s h =
      elim (cases_lt n s) [
        | inl many ↦
            let is : signal_name n s ≡ gate_name (s - 1 - n) = rw (ne_eqb s 0 (λ none. omega (arith, none, many)), lt-ltb n s many) refl in
            let place = ap (λ w. position_or_len (bytes_eq w) (all_names n g m)) is ∙ gate_place (s - 1 - n) (omega (arith, h, many)) in
            omega (arith, place, gate_signal n s many, many)
        | inr few_inputs ↦ elim (cases_lt 0 s) [
          | inl some ↦
              let is : signal_name n s ≡ input_name (s - 1) = rw (ne_eqb s 0 (λ none. omega (arith, none, some)), le-ltb n s few_inputs) refl in
              let place = ap (λ w. position_or_len (bytes_eq w) (all_names n g m)) is ∙ input_place (s - 1) (omega (arith, some, few_inputs)) in
              omega (arith, place, input_signal n s some few_inputs, some)
          | inr none ↦
              let constant : s ≡ 0 = omega (arith, none) in
              ap (λ x. 1 + position_or_len (bytes_eq (signal_name n x)) (all_names n g m)) constant
              ∙ ap (λ p. 1 + p) constant_place
              ∙ sym (ap (printed_signal n) constant)
        ]
      ]

  pub length-all : length (all_names n g m) ≡ 1 + n + g + m
  length-all =
      let tail : length (defined_names g m) ≡ 1 + length (names 103 0 g ++ names 111 0 m) = omega arith in
      omega (arith, length-append (names 105 0 n) (defined_names g m), tail, length-append (names 103 0 g) (names 111 0 m), length-names 105 0 n, length-names 103 0 g, length-names 111 0 m)

  -- a name whose place is there is one of them
  pub known_name : (w : List ℕ) → position_or_len (bytes_eq w) (all_names n g m) < 1 + n + g + m → list_any (bytes_eq w) (all_names n g m) ≡ true
  known_name w h = sym (any_place (bytes_eq w) (all_names n g m)) ∙ lt-ltb (position_or_len (bytes_eq w) (all_names n g m)) (length (all_names n g m)) (omega (arith, h, length-all))

-- a name that has its place after the first ones is none of them
pub none_before : (w : List ℕ) (xs rest : List (List ℕ)) → length xs ≤ position_or_len (bytes_eq w) (xs ++ rest) → list_any (bytes_eq w) xs ≡ false
none_before w [] rest h = refl
none_before w (x ∷ xs) rest h = by_test (bytes_eq w x) refl h (λ far. none_before w xs rest far)
  where
    by_test : (t : Bool) → bytes_eq w x ≡ t → suc (length xs) ≤ cond (not t) (1 + position_or_len (bytes_eq w) (xs ++ rest)) 0 → (length xs ≤ position_or_len (bytes_eq w) (xs ++ rest) → list_any (bytes_eq w) xs ≡ false) → (t || list_any (bytes_eq w) xs) ≡ false
    by_test true e far later = absurd (omega (arith, far))
    by_test false e far later = later (omega (arith, far))
