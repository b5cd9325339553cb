-- Texts that are written one after the other.
use Rattle.std.proofs.Common.{◌≡◌, ℕ, suc, ◌+◌, ◌-◌, ◌<◌, List, ◌∷◌, ◌++◌, refl, sym, ap, ◌∙◌, append_assoc, arith}
use Rattle.std.specs.List.{range_with_len}
use Rattle.text_core.proofs.Extending.{one_part}

-- three parts, and four, at the end of a text
pub three_parts : (old a b c m n whole : List ℕ) → m ≡ old ++ a → n ≡ m ++ b → whole ≡ a ++ (b ++ c) → n ++ c ≡ old ++ whole
three_parts old a b c m n whole first second parts =
    ap (λ text. text ++ c) (second ∙ ap (λ text. text ++ b) first)
    ∙ append_assoc (old ++ a) b c
    ∙ append_assoc old a (b ++ c)
    ∙ ap (λ text. old ++ text) (sym parts)

pub four_parts : (old a b c d m n o whole : List ℕ) → m ≡ old ++ a → n ≡ m ++ b → o ≡ n ++ c → whole ≡ a ++ (b ++ (c ++ d)) → o ++ d ≡ old ++ whole
four_parts old a b c d m n o whole first second third parts =
    ap (λ text. text ++ d) third
    ∙ append_assoc n c d
    ∙ three_parts old a b (c ++ d) m n whole first second parts

-- the first of the numbers from one on, below a bound, and those after it
range_next : (i n : ℕ) → i < n → range_with_len i (n - i) ≡ i ∷ range_with_len (i + 1) (n - (i + 1))
range_next i n h =
    let e : n - i ≡ suc (n - (i + 1)) = omega (arith, h) in
    rw e refl

-- the text of the first of these numbers was written
pub next_of_range : (text : List ℕ → List ℕ) (now new written : List ℕ) (i n : ℕ) → i < n → ((rest : List ℕ) → text (i ∷ rest) ≡ written ++ text rest) → new ≡ now ++ written → new ++ text (range_with_len (i + 1) (n - (i + 1))) ≡ now ++ text (range_with_len i (n - i))
next_of_range text now new written i n h first put =
    let rest = range_with_len (i + 1) (n - (i + 1)) in
    one_part now new written (text rest) (now ++ text (range_with_len i (n - i))) (ap (λ t. now ++ t) (sym (first rest)) ∙ ap (λ numbers. now ++ text numbers) (sym (range_next i n h))) put
