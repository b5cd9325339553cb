-- Numbers as they are written are those that are read.
use Rattle.std.proofs.Common.{◌≡◌, ℕ, zero, suc, ◌<◌, ◌≤◌, ◌^◌, ◌&&◌, ◌||◌, not, eqb, ltb, Bool, true, false, cond, List, [], ◌∷◌, length, get_or, Some, None, refl, sym, ap, ◌∙◌, arith, inl, inr}
use Rattle.std.specs.Fmt.{decimal}
use Rattle.std.specs.Str.{all_ascii_digits}
use Rattle.std.specs.Str.Parse.{digits_value}
use Rattle.std.proofs.lemmas.Bool.{and_parts, cases_Bool, ltb-true, lt-ltb}
use Rattle.std.proofs.lemmas.Bool.Decides.{nat_tests}
use Rattle.std.proofs.lemmas.Fmt.{decimal_nonempty, first_decimal, digits_decimal, digits_value-decimal, decimal-digits_value}
use Rattle.text_core.specs.Words.{is_not_empty}
use Rattle.text_core.specs.Numbers.{is_numeral}
use Rattle.text_core.proofs.NumberLemmas.{numerals}
use Rattle.account_file.specs.Forms.{is_plain, number_below}

pub decimal_digits : (n : ℕ) → n < 2 ^ 64 → all_ascii_digits (decimal n) ≡ true
decimal_digits n small = digits_decimal numerals n small

pub zero_decimal : decimal 0 ≡ 48 ∷ []
zero_decimal = decimal-digits_value numerals (48 ∷ []) refl (omega arith) (λ _. refl) (omega arith)

decimal_leads : (n : ℕ) → n < 2 ^ 64 → (eqb (length (decimal n)) 1 || not (eqb (get_or (decimal n) 0 0) 48)) ≡ true
decimal_leads zero small = ap leads zero_decimal
  where
    leads : List ℕ → Bool
    leads ds = eqb (length ds) 1 || not (eqb (get_or ds 0 0) 48)
decimal_leads (suc n) small = ahead (decimal (suc n)) (first_decimal (suc n) (omega arith) small)
  where
    late : (first : ℕ) → 48 < first → eqb first 48 ≡ false
    late first above = grind (arith, nat_tests)

    any : (b : Bool) → (b || true) ≡ true
    any true = refl
    any false = refl

    ahead : (ds : List ℕ) → 48 < get_or ds 0 0 → (eqb (length ds) 1 || not (eqb (get_or ds 0 0) 48)) ≡ true
    ahead ds above = ap (λ b. eqb (length ds) 1 || not b) (late (get_or ds 0 0) above) ∙ any (eqb (length ds) 1)

decimal_is_plain : (n : ℕ) → n < 2 ^ 64 → is_plain (decimal n) ≡ true
decimal_is_plain n small =
    let filled : is_not_empty (decimal n) ≡ true = let some = decimal_nonempty n small in grind (arith, nat_tests, some) in
    rw (filled, decimal_digits n small, decimal_leads n small) refl

-- what is written of a number is read as it
pub number_read : (bound n : ℕ) → n < bound → bound ≤ 2 ^ 64 → number_below bound (decimal n) ≡ Some n
number_read bound n below small =
    let value = digits_value-decimal numerals n (omega (arith, below, small)) in
    let within : ltb (digits_value 10 (decimal n)) bound ≡ true = lt-ltb (digits_value 10 (decimal n)) bound (omega (arith, value, below)) in
    rw (decimal_is_plain n (omega (arith, below, small)), within) (ap Some value)

-- what is read as a number is what is written of it
pub number_written : (bound : ℕ) (word : List ℕ) (n : ℕ) → bound ≤ 2 ^ 64 → number_below bound word ≡ Some n → (word ≡ decimal n) × (n < bound)
number_written bound word n small e =
    elim (cases_Bool (is_plain word && ltb (digits_value 10 word) bound)) [
      | inl passes ↦
          let tests = and_parts (is_plain word) (ltb (digits_value 10 word) bound) passes in
          let plain = and_parts (is_numeral word) (eqb (length word) 1 || not (eqb (get_or word 0 0) 48)) tests.0 in
          let numeral = and_parts (is_not_empty word) (all_ascii_digits word) plain.0 in
          let below = ltb-true (digits_value 10 word) bound tests.1 in
          let filled : 0 < length word = let e = numeral.0 in grind (arith, nat_tests, e) in
          let leads : get_or word 0 0 ≡ 48 → length word ≡ 1 = λ zero_first. let e = plain.1 in grind (arith, nat_tests, e, zero_first) in
          let value : Some (digits_value 10 word) ≡ Some n = sym (ap (λ b. cond b (Some (digits_value 10 word)) None) passes) ∙ e in
          let same : digits_value 10 word ≡ n = cc in
          (sym (decimal-digits_value numerals word numeral.1 filled leads (omega (arith, below, small))) ∙ ap decimal same, omega (arith, same, below))
      | inr fails ↦ let none : None ≡ Some n = sym (ap (λ b. cond b (Some (digits_value 10 word)) None) fails) ∙ e in cc
    ]

pub decimal_numeral : (n : ℕ) → n < 2 ^ 64 → is_numeral (decimal n) ≡ true
decimal_numeral n small = (and_parts (is_numeral (decimal n)) (eqb (length (decimal n)) 1 || not (eqb (get_or (decimal n) 0 0) 48)) (decimal_is_plain n small)).0
