-- Digits, in the words of std's lemmas on numerals.
use Rattle.std.proofs.Common.{◌≡◌, ℕ, ◌+◌, ◌*◌, ◌<◌, ◌≤◌, ◌^◌, true, false, List, [], ◌∷◌, length, get_or, take, refl, ap, ◌∙◌, arith, take_all, ◌↔◌, Option, Some, None, Err}
use Rattle.std.specs.Char.{is_ascii_digit, digit_value}
use Rattle.std.specs.List.{list_all}
use Rattle.std.specs.Str.{all_ascii_digits}
use Rattle.std.specs.Str.Parse.{digits_value}
use Rattle.std.proofs.lemmas.Int.Digits.{digits_value_more}
use Rattle.std.proofs.lemmas.Str.Parse.{IsNumeralModel, numerals_by_value, tells_all_ascii_digits, digits_value-take-le, digit_at}
use Rattle.std.proofs.lemmas.List.Elements.{All-from_get_or}
use Rattle.std.proofs.lemmas.Bool.Decides.{nat_tests}
use Rattle.std.specs.Int.{IsInRange}
use Rattle.text_core.specs.Bytes.{is_blank}
use Rattle.text_core.specs.Words.{is_not_empty, IsWord}
use Rattle.std.proofs.lemmas.Fmt.{digits_decimal, digits_value-decimal, decimal_nonempty}
use Rattle.std.specs.Fmt.{decimal}
use Rattle.std.specs.Option.{SomeIff, ok_or}
use Rattle.text_core.specs.Numbers.{is_numeral, number}
use Rattle.text_core.specs.declared.numbers.NumberFault.TheVariants.{TooLarge}

pub numerals : IsNumeralModel (λ ds. all_ascii_digits ds ≡ true) (digits_value 10)
numerals = numerals_by_value (λ ds. all_ascii_digits ds ≡ true) tells_all_ascii_digits

-- the two words for a row of digits agree
pub digits_by_all : (ds : List ℕ) → list_all is_ascii_digit ds ≡ all_ascii_digits ds
digits_by_all [] = refl
digits_by_all (d ∷ ds) = rw (digits_by_all ds) refl

-- a row of digits is at least as large as its front, one digit further
pub digits_value-grows : (ds : List ℕ) (i v : ℕ) → i < length ds → v ≡ digits_value 10 (take i ds) → v * 10 + digit_value (get_or ds i 0) ≤ digits_value 10 ds
digits_value-grows ds i v h e =
    let more = digits_value_more 10 ds i h in
    let least = digits_value-take-le 10 ds (i + 1) (omega arith) in
    omega arith

-- a whole row of digits is its own front
pub digits_value-whole : (ds : List ℕ) (i v : ℕ) → length ds ≤ i → v ≡ digits_value 10 (take i ds) → v ≡ digits_value 10 ds
digits_value-whole ds i v h e = e ∙ ap (digits_value 10) (take_all i ds h)

-- a numeral is too large exactly where its value doesn't fit
pub too_large_exactly : (word : List ℕ) (r : Option ℕ) → is_numeral word ≡ true → SomeIff r (digits_value 10 word < 2 ^ 64) (digits_value 10 word) → (ok_or r TooLarge ≡ Err TooLarge) ↔ ((v : ℕ) × (number word ≡ Some v) × (2 ^ 64 ≤ v))
too_large_exactly word (Some n) is h =
    (λ clash. cc clash, λ (v, has, large). absurd (let e : Some (digits_value 10 word) ≡ Some v = rw is at has in let same : digits_value 10 word ≡ v = cc in omega (arith, h.0)))
too_large_exactly word None is h =
    (λ _. (digits_value 10 word, rw is refl, omega (arith, h)), λ _. refl)

-- a row of digits that isn't empty is a number
number-digits : (word : List ℕ) → all_ascii_digits word ≡ true → 0 < length word → number word ≡ Some (digits_value 10 word)
number-digits [] digits some = absurd (omega arith)
number-digits (d ∷ ds) digits some =
    let filled : is_not_empty (d ∷ ds) ≡ true = grind (arith, nat_tests) in
    rw (digits, filled) refl

-- what is written in base ten is a number, and the same one
pub number-decimal : (v : ℕ) → v < 2 ^ 64 → number (decimal v) ≡ Some v
number-decimal v h =
    number-digits (decimal v) (digits_decimal numerals v h) (decimal_nonempty v h) ∙ ap Some (digits_value-decimal numerals v h)

digit-not_blank : (x : ℕ) → IsInRange 48 57 x → is_blank x ≡ false
digit-not_blank x h = grind (arith, nat_tests)

-- and it is a word
pub IsWord-decimal : (v : ℕ) → v < 2 ^ 64 → IsWord (decimal v)
IsWord-decimal v h =
    let digits = numerals.to (decimal v) (digits_decimal numerals v h) in
    (decimal_nonempty v h, All-from_get_or (λ byte. is_blank byte ≡ false) (decimal v) 0 (λ i below. digit-not_blank _ (digit_at (decimal v) i digits below)))
