-- The clause that excludes the vectors that begin with given bits, and the literals that are true where it is to be derived.
use Rattle.std.proofs.Common.{◌≡◌, ◌≢◌, ℕ, zero, suc, ◌+◌, ◌*◌, ◌/◌, ◌-◌, ◌%◌, ◌<◌, ◌==◌, not, eqb, Bool, true, false, List, [], ◌∷◌, ◌++◌, length, map, nat_lt, slice_index_or, refl, sym, ap, ◌∙◌, inl, inr, arith}
use Rattle.std.specs.List.{list_any, list_all, range_with_len}
use Rattle.std.proofs.lemmas.Bool.{both_ways, cases_Bool, lt-ltb, or_from, or_left, or_right}
use Rattle.std.proofs.lemmas.Bool.Decides.{eqb_tells}
use Rattle.std.proofs.lemmas.List.{get_or-map, get_or_append_left, get_or_at, length-append, length-map}
use Rattle.std.proofs.lemmas.List.Folds.{Any-from_list_any, list_any_at}
use Rattle.std.proofs.lemmas.List.Recursion.{and_from_places}
use Rattle.std.proofs.lemmas.List.FromFn.{fill_by_all, get_or-map-range_with_len, length-map-range_with_len, map-range_with_len_more}
use Rattle.circuits.specs.Literals.{bit}
use Rattle.cnf_core.specs.declared.literal.SatLit.{SatLit}
use Rattle.cnf_core.specs.Clauses.{literal_of, opposite, variable_of}
use Rattle.cnf_core.specs.Derivations.{is_false, is_same, is_true, repeats_variable}
use Rattle.cnf_core.proofs.LiteralLemmas.{not_opposite, same_from, same_itself, same_literal, variable_of-literal, opposite-literal}
use Rattle.table_oracle.specs.Splits.{excluding}
use Rattle.table_oracle.proofs.KnownLemmas.{AreApart, IsKnown}
use Rattle.std.proofs.Math.Bool.{not-not}

abbrev pub start : List Bool → List SatLit
start bits = map opposite (excluding bits)

signs_differ : (v : ℕ) (b : Bool) → literal_of v b ≡ literal_of v (not b) → ⊥
signs_differ v b same =
    let l = literal_of v b in
    both_ways (is_same (opposite l) l) (not_opposite l) (same_from (opposite l) l (opposite-literal v b ∙ sym same))

pub count_of_excluding : (bits : List Bool) → length (excluding bits) ≡ length bits
count_of_excluding bits = length-map-range_with_len (λ i. literal_of (1 + i) (not (bit bits i))) 0 (length bits)

excluding_at : (bits : List Bool) (i : ℕ) (d : SatLit) → i < length bits → slice_index_or (excluding bits) i d ≡ literal_of (1 + i) (not (bit bits i))
excluding_at bits i d within = get_or-map-range_with_len (λ i. literal_of (1 + i) (not (bit bits i))) 0 (length bits) i i d within (omega arith)

start_at : (bits : List Bool) (i : ℕ) (d : SatLit) → i < length bits → slice_index_or (start bits) i d ≡ literal_of (1 + i) (bit bits i)
start_at bits i d within =
    get_or-map opposite (excluding bits) i d d (omega (arith, within, count_of_excluding bits))
    ∙ (ap opposite (excluding_at bits i d within) ∙ (opposite-literal (1 + i) (not (bit bits i)) ∙ ap (literal_of (1 + i)) (not-not (bit bits i))))

count_of_start : (bits : List Bool) → length (start bits) ≡ length bits
count_of_start bits = length-map (excluding bits) opposite ∙ count_of_excluding bits

-- each input has its bit, and nothing else is true
pub start_true : (bits : List Bool) (i : ℕ) → i < length bits → is_true (start bits) (literal_of (1 + i) (bit bits i)) ≡ true
start_true bits i within =
    let l = literal_of (1 + i) (bit bits i) in
    list_any_at (is_same l) (start bits) i l (omega (arith, within, count_of_start bits)) (ap (is_same l) (start_at bits i l within) ∙ same_itself l)

-- A literal that is true gives an input its bit.
pub record IsGiven (bits : List Bool) (l : SatLit) : Type 0 where
  pub input : ℕ
  pub within : input < length bits
  pub is : l ≡ literal_of (1 + input) (bit bits input)

pub start_says : (bits : List Bool) (l : SatLit) → is_true (start bits) l ≡ true → IsGiven bits l
start_says bits l truth =
    let found = Any-from_list_any (is_same l) (start bits) truth in
    let i = found.0 in
    let m = found.1 in
    let within : i < length bits = omega (arith, found.2, count_of_start bits) in
    record {
      input = i;
      within = within;
      is = same_literal l m found.4 ∙ (sym found.3 ∙ start_at bits i m within);
    }

-- what gives no input its bit isn't true
pub start_false : (bits : List Bool) (l : SatLit) → (IsGiven bits l → ⊥) → is_true (start bits) l ≡ false
start_false bits l not_given =
    elim (cases_Bool (is_true (start bits) l)) [ inl truth ↦ absurd (not_given (start_says bits l truth)) | inr free ↦ free ]

-- a literal of a later input isn't true
pub start_later : (bits : List Bool) (b : Bool) → is_true (start bits) (literal_of (1 + length bits) b) ≡ false
start_later bits b =
    start_false bits (literal_of (1 + length bits) b) (λ given. apart given.input given.within (ap variable_of given.is))
  where
    apart : (i : ℕ) → i < length bits → variable_of (literal_of (1 + length bits) b) ≡ variable_of (literal_of (1 + i) (bit bits i)) → ⊥
    apart i within same = omega (arith, within, same, variable_of-literal (1 + length bits) b, variable_of-literal (1 + i) (bit bits i))

pub start_apart : (bits : List Bool) → AreApart (start bits)
start_apart bits l truth =
    start_false bits (opposite l) (λ other.
    let given = start_says bits l truth in
    clash given.input other.input given.is other.is)
  where
    clash : (i j : ℕ) → l ≡ literal_of (1 + i) (bit bits i) → opposite l ≡ literal_of (1 + j) (bit bits j) → ⊥
    clash i j one other =
        let turned : literal_of (1 + i) (not (bit bits i)) ≡ literal_of (1 + j) (bit bits j) = sym (opposite-literal (1 + i) (bit bits i)) ∙ (sym (ap opposite one) ∙ other) in
        let same : j ≡ i = omega (arith, ap variable_of turned, variable_of-literal (1 + i) (not (bit bits i)), variable_of-literal (1 + j) (bit bits j)) in
        signs_differ (1 + i) (bit bits i) (sym (turned ∙ ap (λ k. literal_of (1 + k) (bit bits k)) same))

-- a literal of an input whose literals of the other sign is true
turned_known : (made : List SatLit) (v : ℕ) (b : Bool) → is_true made (literal_of v (not b)) ≡ true → IsKnown made (literal_of v b)
turned_known made v b truth =
    or_right (is_true made (literal_of v b)) (is_false made (literal_of v b)) (ap (is_true made) (opposite-literal v b) ∙ truth)

known_by : (made : List SatLit) (v : ℕ) (own b : Bool) → is_true made (literal_of v own) ≡ true → IsKnown made (literal_of v b)
known_by made v true true truth = or_left (is_true made (literal_of v true)) (is_false made (literal_of v true)) truth
known_by made v false false truth = or_left (is_true made (literal_of v false)) (is_false made (literal_of v false)) truth
known_by made v true false truth = turned_known made v false truth
known_by made v false true truth = turned_known made v true truth

pub start_known : (bits : List Bool) (made : List SatLit) → ((l : SatLit) → is_true (start bits) l ≡ true → is_true made l ≡ true) → (i : ℕ) (b : Bool) → i < length bits → IsKnown made (literal_of (1 + i) b)
start_known bits made kept i b within =
    known_by made (1 + i) (bit bits i) b (kept (literal_of (1 + i) (bit bits i)) (start_true bits i within))

-- the clause with one bit more
bit_of_longer : (bits : List Bool) (b : Bool) (i : ℕ) → i < length bits → bit (bits ++ b ∷ []) i ≡ bit bits i
bit_of_longer bits b i within = get_or_append_left bits (b ∷ []) false i within

same_on : (f g : ℕ → SatLit) (n : ℕ) → ((i : ℕ) → i < n → f i ≡ g i) → map f (range_with_len 0 n) ≡ map g (range_with_len 0 n)
same_on f g n same =
    let d : SatLit = record { 0 = 0 } in
    fill_by_all g (map f (range_with_len 0 n)) n d (length-map-range_with_len f 0 n) (λ k below. get_or-map-range_with_len f 0 n k k d below (omega arith) ∙ same k below)

pub excluding_more : (bits : List Bool) (b : Bool) → excluding (bits ++ b ∷ []) ≡ excluding bits ++ literal_of (1 + length bits) (not b) ∷ []
excluding_more bits b =
    let n = length bits in
    let f : ℕ → SatLit = λ i. literal_of (1 + i) (not (bit (bits ++ b ∷ []) i)) in
    let g : ℕ → SatLit = λ i. literal_of (1 + i) (not (bit bits i)) in
    ap (λ k. map f (range_with_len 0 k)) (length-append bits (b ∷ []))
    ∙ (map-range_with_len_more f 0 n n (omega arith)
    ∙ (ap (λ ls. ls ++ f n ∷ []) (same_on f g n (λ i below. ap (λ c. literal_of (1 + i) (not c)) (bit_of_longer bits b i (omega (arith, below))))) ∙ ap (λ c. excluding bits ++ literal_of (1 + n) (not c) ∷ []) (get_or_at bits b [] false n refl)))

-- the variables of the clause are known, and none stands twice
pub excluding_known : (variables : ℕ) (bits : List Bool) → length bits < variables → list_all (λ l. nat_lt (variable_of l) variables) (excluding bits) ≡ true
excluding_known variables bits few =
    let d : SatLit = record { 0 = 0 } in
    and_from_places (list_all (λ l. nat_lt (variable_of l) variables)) (λ l. nat_lt (variable_of l) variables) refl (λ _ _. refl) (excluding bits) d (λ k within.
    let here : k < length bits = omega (arith, within, count_of_excluding bits) in
    lt-ltb (variable_of (slice_index_or (excluding bits) k d)) variables (omega (arith, ap variable_of (excluding_at bits k d here), variable_of-literal (1 + k) (not (bit bits k)), here, few)))

once_from : (g : ℕ → Bool) (first n : ℕ) → repeats_variable (map (λ i. literal_of (1 + i) (g i)) (range_with_len first n)) ≡ false
once_from g first zero = refl
once_from g first (suc n) = or_from _ _ (later (first + 1) n (omega arith)) (once_from g (first + 1) n)
  where
    later : (from count : ℕ) → first < from → list_any (λ other. variable_of other == variable_of (literal_of (1 + first) (g first))) (map (λ i. literal_of (1 + i) (g i)) (range_with_len from count)) ≡ false
    later from zero above = refl
    later from (suc count) above =
        or_from _ _ (unlike (variable_of (literal_of (1 + from) (g from))) (variable_of (literal_of (1 + first) (g first))) (omega (arith, variable_of-literal (1 + from) (g from), variable_of-literal (1 + first) (g first), above))) (later (from + 1) count (omega (arith, above)))
      where
        unlike : (x y : ℕ) → x ≢ y → eqb x y ≡ false
        unlike x y apart = elim (eqb_tells x y) [ inl (same, is) ↦ absurd (apart is) | inr (differ, _) ↦ differ ]

pub excluding_once : (bits : List Bool) → repeats_variable (excluding bits) ≡ false
excluding_once bits = once_from (λ i. not (bit bits i)) 0 (length bits)
