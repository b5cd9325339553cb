-- The position on a line of the symbols: it ends at the first blank.
use Rattle.std.proofs.Common.{◌≡◌, ℕ, zero, suc, ◌+◌, ◌-◌, ◌<◌, true, false, List, [], ◌∷◌, ◌++◌, length, take, drop, get_or, Option, None, Some, Result, Ok, Err, IfOk, refl, sym, ap, ap₂, ◌∙◌, subst, append_assoc, arith}
use Rattle.std.specs.Char.{is_ascii_digit}
use Rattle.std.specs.Result.{result_ok}
use Rattle.std.specs.Str.{all_ascii_digits}
use Rattle.std.specs.Str.Parse.{digits_value}
use Rattle.std.proofs.Math.Bool.{and-eq-true_iff}
use Rattle.std.proofs.lemmas.Bool.Decides.{nat_tests}
use Rattle.std.proofs.lemmas.List.{get_or_append_left, get_or_at, take_at, drop_at, take_rest, length-append}
use Rattle.std.proofs.lemmas.List.Sums.{position_or_len_is, split_at_first, passes_at_first}
use Rattle.std.proofs.lemmas.Option.{cond_some}
use Rattle.text_core.specs.Bytes.{is_blank}
use Rattle.text_core.specs.Words.{is_not_empty, word_length}
use Rattle.text_core.specs.Numbers.{is_numeral, number}
use Rattle.text_core.specs.declared.numbers.NumberFault.{NumberFault}
use Rattle.aiger_reader.specs.Symbols.{BeginsPosition}

digit_not_blank : (byte : ℕ) → is_ascii_digit byte ≡ true → is_blank byte ≡ false
digit_not_blank byte h = grind (arith, nat_tests)

digits_not_blank : (digits : List ℕ) → all_ascii_digits digits ≡ true → (k : ℕ) → k < length digits → is_blank (get_or digits k 0) ≡ false
digits_not_blank [] h k below = absurd (omega arith)
digits_not_blank (d ∷ ds) h zero below =
    digit_not_blank d ((and-eq-true_iff (is_ascii_digit d) (all_ascii_digits ds)).0 h).0
digits_not_blank (d ∷ ds) h (suc k) below =
    digits_not_blank ds ((and-eq-true_iff (is_ascii_digit d) (all_ascii_digits ds)).0 h).1 k (omega arith)

number_not_blank : (digits : List ℕ) (n : ℕ) → number digits ≡ Some n → (k : ℕ) → k < length digits → is_blank (get_or digits k 0) ≡ false
number_not_blank digits n h =
    let numeral = cond_some (is_numeral digits) (digits_value 10 digits) n h in
    digits_not_blank digits ((and-eq-true_iff (is_not_empty digits) (all_ascii_digits digits)).0 numeral.0).1

word_before_blank : (digits tail : List ℕ) (blank : ℕ) → ((k : ℕ) → k < length digits → is_blank (get_or digits k 0) ≡ false) → is_blank blank ≡ true → word_length (digits ++ blank ∷ tail) ≡ length digits
word_before_blank digits tail blank none is =
    position_or_len_is is_blank (digits ++ blank ∷ tail) (length digits) 0 (omega (arith, length-append digits (blank ∷ tail))) (λ k below. ap is_blank (get_or_append_left digits (blank ∷ tail) 0 k below) ∙ none k below) (λ _. ap is_blank (get_or_at digits blank tail 0 (length digits) refl) ∙ is)

-- the digits, and what stands after the blank
pub record Parts (bytes digits tail : List ℕ) : Type 0 where
  pub there : word_length bytes < length bytes
  pub front : take (word_length bytes) bytes ≡ digits
  pub after : drop (word_length bytes + 1) bytes ≡ tail

parts_at : (digits tail : List ℕ) (blank n : ℕ) → n ≡ length digits → (n < length (digits ++ blank ∷ tail)) × (take n (digits ++ blank ∷ tail) ≡ digits) × (drop (n + 1) (digits ++ blank ∷ tail) ≡ tail)
parts_at digits tail blank n same =
    let longer : length (digits ++ blank ∷ []) ≡ n + 1 = omega (arith, length-append digits (blank ∷ [])) in
    (omega (arith, length-append digits (blank ∷ tail)), take_at digits (blank ∷ tail) n (sym same), ap (drop (n + 1)) (sym (append_assoc digits (blank ∷ []) tail)) ∙ drop_at (digits ++ blank ∷ []) tail (n + 1) longer)

pub position_parts : (bytes tail : List ℕ) (position : ℕ) → (begins : BeginsPosition bytes position tail) → Parts bytes begins.digits tail
position_parts bytes tail position begins =
    let whole = begins.digits ++ begins.blank ∷ tail in
    let count = word_before_blank begins.digits tail begins.blank (number_not_blank begins.digits position begins.place) begins.blank_is in
    let parts = parts_at begins.digits tail begins.blank (word_length whole) count in
    let P : List ℕ → Type 0 = λ xs. Parts xs begins.digits tail in
    subst P (sym begins.form) (record { there = parts.0; front = parts.1; after = parts.2 })

-- the bytes begin with one position at most
pub position_same : (bytes x y : List ℕ) (p q : ℕ) → BeginsPosition bytes p x → BeginsPosition bytes q y → (p ≡ q) × (x ≡ y)
position_same bytes x y p q one other =
    let a = position_parts bytes x p one in
    let b = position_parts bytes y q other in
    let digits : one.digits ≡ other.digits = sym a.front ∙ b.front in
    let same : Some p ≡ Some q = sym one.place ∙ (ap number digits ∙ other.place) in
    (cc, sym a.after ∙ b.after)

-- where a blank stands after a number
pub position_here : (bytes tail : List ℕ) (position : ℕ) → word_length bytes < length bytes → number (take (word_length bytes) bytes) ≡ Some position → tail ≡ take (length bytes - (word_length bytes + 1)) (drop (word_length bytes + 1) bytes) → BeginsPosition bytes position tail
position_here bytes tail position there place after =
    let n = word_length bytes in
    let tail_is : tail ≡ drop (n + 1) bytes = after ∙ take_rest bytes (n + 1) in
    record {
      digits = take n bytes;
      blank = get_or bytes n 0;
      form = split_at_first is_blank bytes 0 there ∙ ap (λ xs. take n bytes ++ get_or bytes n 0 ∷ xs) (sym tail_is);
      place = place;
      blank_is = passes_at_first is_blank bytes 0 there;
    }

-- what is taken before the blank
pub front_is : (bytes left taken : List ℕ) (count : ℕ) → left ≡ bytes → count ≡ word_length bytes → taken ≡ take count left → taken ≡ take (word_length bytes) bytes
front_is bytes left taken count same counted front =
    front ∙ ap₂ take counted same

-- the value of a word that is a number of 64 bits
pub ok_value : (r : Result ℕ NumberFault) (o : Option ℕ) (n : ℕ) → IfOk r (λ v. o ≡ Some v) → Some n ≡ result_ok r → o ≡ Some n
ok_value (Ok v) o n h same = h ∙ sym same
ok_value (Err e) o n h same = cc

pub not_refused : (r : Result ℕ NumberFault) (n : ℕ) → r ≡ Ok n → None ≡ result_ok r → ⊥
not_refused r n is none = cc
