-- Numbers on a line, one blank between each two, are read as these numbers.
use Rattle.std.proofs.Common.{◌≡◌, ℕ, ◌^◌, ◌<◌, false, List, [], ◌∷◌, map, All, Some, refl, ap, ◌∙◌, arith}
use Rattle.std.specs.Fmt.{decimal}
use Rattle.std.specs.Int.{IsInRange}
use Rattle.std.specs.List.{join_with_byte}
use Rattle.std.proofs.lemmas.Fmt.{digits_decimal}
use Rattle.std.proofs.lemmas.Str.Parse.{digit_at}
use Rattle.std.proofs.lemmas.Bool.Decides.{nat_tests}
use Rattle.std.proofs.lemmas.List.Elements.{All-nil, All-cons, All-head, All-tail, All-append, All-map, All-from_get_or}
use Rattle.text_core.specs.Bytes.{is_line_feed}
use Rattle.text_core.specs.Lines.{IsLine}
use Rattle.text_core.specs.Words.{words}
use Rattle.text_core.specs.Numbers.{number}
use Rattle.text_core.proofs.NumberLemmas.{numerals, number-decimal, IsWord-decimal}
use Rattle.text_core.proofs.WordLemmas.{words-word, words-last}
use Rattle.aiger_reader.specs.Words.{numbers_on}
use Rattle.net_print.specs.Rows.{numbers_line}

-- numbers of 64 bits
abbrev pub AreWords : List ℕ → Type 0
AreWords numbers = All (λ n. n < 2 ^ 64) numbers

no_line_feed : (x : ℕ) → IsInRange 48 57 x → is_line_feed x ≡ false
no_line_feed x h = grind (arith, nat_tests)

pub IsLine-decimal : (n : ℕ) → n < 2 ^ 64 → IsLine (decimal n)
IsLine-decimal n h =
    let digits = numerals.to (decimal n) (digits_decimal numerals n h) in
    All-from_get_or (λ byte. is_line_feed byte ≡ false) (decimal n) 0 (λ i below. no_line_feed _ (digit_at (decimal n) i digits below))

first : (n : ℕ) (ns : List ℕ) → AreWords (n ∷ ns) → n < 2 ^ 64
first n ns all = All-head (λ n. n < 2 ^ 64) n ns all

rest : (n : ℕ) (ns : List ℕ) → AreWords (n ∷ ns) → AreWords ns
rest n ns all = All-tail (λ n. n < 2 ^ 64) n ns all

-- what holds of the blank and of each byte of the words holds of the line
pub all_joined : (P : ℕ → Type 0) (words : List (List ℕ)) → P 32 → All (All P) words → All P (join_with_byte 32 words)
all_joined P [] blank all = All-nil P
all_joined P (word ∷ []) blank all = All-head (All P) word [] all
all_joined P (word ∷ next ∷ words) blank all =
    All-append P word (32 ∷ join_with_byte 32 (next ∷ words)) (All-head (All P) word (next ∷ words) all)
    (All-cons P 32 (join_with_byte 32 (next ∷ words)) blank (all_joined P (next ∷ words) blank (All-tail (All P) word (next ∷ words) all)))

pub IsLine-numbers_line : (ns : List ℕ) → AreWords ns → IsLine (numbers_line ns)
IsLine-numbers_line ns all =
    all_joined (λ byte. is_line_feed byte ≡ false) (map decimal ns) refl (All-map IsLine decimal ns (λ k d h. IsLine-decimal _ (all k d h)))

words_are : (ns : List ℕ) → AreWords ns → words (numbers_line ns) ≡ map decimal ns
words_are [] all = refl
words_are (n ∷ []) all = words-last (decimal n) (IsWord-decimal n (first n [] all))
words_are (n ∷ m ∷ ns) all =
    words-word (decimal n) (numbers_line (m ∷ ns)) 32 (IsWord-decimal n (first n (m ∷ ns) all)) refl
    ∙ ap (λ ws. decimal n ∷ ws) (words_are (m ∷ ns) (rest n (m ∷ ns) all))

values_are : (ns : List ℕ) → AreWords ns → map number (map decimal ns) ≡ map Some ns
values_are [] all = refl
values_are (n ∷ ns) all =
    ap (λ v. v ∷ map number (map decimal ns)) (number-decimal n (first n ns all))
    ∙ ap (λ vs. Some n ∷ vs) (values_are ns (rest n ns all))

pub numbers_on-numbers_line : (ns : List ℕ) → AreWords ns → numbers_on (numbers_line ns) ≡ map Some ns
numbers_on-numbers_line ns all = ap (map number) (words_are ns all) ∙ values_are ns all
