-- Lines as they are written are those that are read.
use Rattle.std.proofs.Common.{◌≡◌, ℕ, ◌+◌, ◌<◌, ◌≤◌, eqb, ltb, true, false, cond, List, [], ◌∷◌, ◌++◌, length, All, refl, sym, ap, ◌∙◌, arith, append-nil}
use Rattle.std.specs.Char.{is_ascii_digit}
use Rattle.std.specs.List.{join_with_byte, list_all, prefix_len}
use Rattle.std.specs.Str.{all_ascii_digits}
use Rattle.std.proofs.lemmas.Bool.{and_parts, ltb-true}
use Rattle.std.proofs.lemmas.Bool.Decides.{nat_tests}
use Rattle.std.proofs.lemmas.List.Elements.{All-nil, All-cons, All-head, All-tail, All-append, All-weaker}
use Rattle.std.proofs.lemmas.List.Splits.{slice_split_at, slice_split_none, join_with_byte-slice_split}
use Rattle.std.proofs.lemmas.List.Sums.{AllPass-from_list_all}
use Rattle.std.proofs.lemmas.Str.Parse.{tells_all_ascii_digits}
use Rattle.text_core.specs.Bytes.{is_line_feed}
use Rattle.text_core.specs.Lines.{IsLine}
use Rattle.account_file.specs.Spelling.{spaced}
use Rattle.account_file.specs.Words.{is_space, words_of}

-- no byte is a blank, a line feed or another control
abbrev pub IsVisible : List ℕ → Type 0
IsVisible word = All (λ byte. 32 < byte) word

no_blank : (byte : ℕ) → 32 < byte → eqb byte 32 ≡ false
no_blank byte above = grind (arith, nat_tests)

blankless : (word : List ℕ) → IsVisible word → All (λ byte. is_space byte ≡ false) word
blankless word h = All-weaker (λ byte. 32 < byte) (λ byte. is_space byte ≡ false) no_blank word h

pub words_spaced : (first : List ℕ) (rest : List (List ℕ)) → IsVisible first → All IsVisible rest → words_of (first ++ spaced rest) ≡ first ∷ rest
words_spaced first [] h hs = ap words_of (append-nil first) ∙ slice_split_none is_space first (blankless first h)
words_spaced first (next ∷ rest) h hs =
    slice_split_at is_space first 32 (next ++ spaced rest) (blankless first h) refl
    ∙ ap (λ l. first ∷ l) (words_spaced next rest (All-head IsVisible next rest hs) (All-tail IsVisible next rest hs))

no_line_feed : (byte : ℕ) → 32 < byte → is_line_feed byte ≡ false
no_line_feed byte above = grind (arith, nat_tests)

-- words with blanks between them have no line feed
pub line_spaced_words : (first : List ℕ) (rest : List (List ℕ)) → IsVisible first → All IsVisible rest → IsLine (first ++ spaced rest)
line_spaced_words first rest h hs =
    All-append (λ byte. is_line_feed byte ≡ false) first (spaced rest)
    (All-weaker (λ byte. 32 < byte) (λ byte. is_line_feed byte ≡ false) no_line_feed first h) (after rest hs)
  where
    after : (words : List (List ℕ)) → All IsVisible words → IsLine (spaced words)
    after [] all = All-nil (λ byte. is_line_feed byte ≡ false)
    after (next ∷ words) all =
        All-cons (λ byte. is_line_feed byte ≡ false) 32 (next ++ spaced words) refl
        (All-append (λ byte. is_line_feed byte ≡ false) next (spaced words)
        (All-weaker (λ byte. 32 < byte) (λ byte. is_line_feed byte ≡ false) no_line_feed next (All-head IsVisible next words all))
        (after words (All-tail IsVisible next words all)))

joined : (first : List ℕ) (rest : List (List ℕ)) → join_with_byte 32 (first ∷ rest) ≡ first ++ spaced rest
joined first [] = sym (append-nil first)
joined first (next ∷ rest) = ap (λ l. first ++ 32 ∷ l) (joined next rest)

pub spaced_words : (line first : List ℕ) (rest : List (List ℕ)) → words_of line ≡ first ∷ rest → line ≡ first ++ spaced rest
spaced_words line first rest e = sym (join_with_byte-slice_split 32 line) ∙ ap (join_with_byte 32) e ∙ joined first rest

pub shown : (word : List ℕ) → list_all (λ byte. ltb 32 byte) word ≡ true → IsVisible word
shown word e = All-weaker (λ byte. ltb 32 byte ≡ true) (λ byte. 32 < byte) (λ byte above. ltb-true 32 byte above) word (AllPass-from_list_all (λ byte. ltb 32 byte) word e)

pub digits_visible : (ds : List ℕ) → all_ascii_digits ds ≡ true → IsVisible ds
digits_visible [] e = All-nil (λ byte. 32 < byte)
digits_visible (c ∷ cs) e =
    let k = tells_all_ascii_digits.parts c cs e in
    let least : 48 ≤ c = k.0.0 in
    let above : 32 < c = omega (arith, least) in
    All-cons (λ byte. 32 < byte) c cs above (digits_visible cs k.1)

-- what stands after the first byte that is no digit
pub digits_front : (ds : List ℕ) (s : ℕ) (rest : List ℕ) → all_ascii_digits ds ≡ true → is_ascii_digit s ≡ false → prefix_len is_ascii_digit (ds ++ s ∷ rest) ≡ length ds
digits_front [] s rest d other = ap (λ b. cond b (1 + prefix_len is_ascii_digit rest) 0) other
digits_front (c ∷ cs) s rest d other =
    let k = and_parts (is_ascii_digit c) (all_ascii_digits cs) d in
    let more = digits_front cs s rest k.1 other in
    ap (λ b. cond b (1 + prefix_len is_ascii_digit (cs ++ s ∷ rest)) 0) k.0 ∙ omega (arith, more)
