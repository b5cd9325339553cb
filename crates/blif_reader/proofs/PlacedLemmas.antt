-- For `lines`: what the definitions of placed lines and words say of what stands at their front.
use Rattle.std.proofs.Common.{◌≡◌, ◌==◌, ℕ, ◌+◌, ◌<◌, ◌≤◌, Bool, true, false, cond, not, min, List, [], ◌∷◌, Some, None, length, take, drop, refl, ap, sym, ◌∙◌, inl, inr, arith, length-take, length-drop}
use Rattle.std.specs.List.{filter, prefix_len, slice_split}
use Rattle.std.proofs.lemmas.List.Splits.{slice_split-cons_yes}
use Rattle.std.proofs.lemmas.List.Sums.{prefix_len-le-length}
use Rattle.std.proofs.lemmas.Bool.{cases_lt}
use Rattle.std.proofs.lemmas.List.{nil_from_length}
use Rattle.text_core.specs.Bytes.{is_blank}
use Rattle.text_core.specs.Piece.{Piece, front}
use Rattle.text_core.specs.Lines.{lines, line_length, first_line, after_line}
use Rattle.text_core.specs.Words.{is_not_empty, word_length, without_blanks, first_word, after_word}
use Rattle.text_core.proofs.EmptyTests.{filled_by_test, empty_by_test, some_by_test, none_by_test}
use Rattle.text_core.proofs.LineLemmas.{lines-front}
use Rattle.text_core.proofs.WordLemmas.{drop-one_more, parts_after, slice_split-front, word_length-after_blanks}
use Rattle.blif_reader.specs.JoinedLines.{placed, lines_at, words_at}

abbrev piece : List ℕ → ℕ → Piece
piece bytes at = record { bytes = bytes; at = at }

abbrev filled : Piece → Bool
filled word = is_not_empty word.bytes

-- the words of bytes that begin at an offset
abbrev words_from : ℕ → List ℕ → List Piece
words_from at bytes = filter filled (placed at (slice_split is_blank bytes))

words_from-blank : (at b : ℕ) (bs : List ℕ) → is_blank b ≡ true → words_from at (b ∷ bs) ≡ words_from (at + 1) bs
words_from-blank at b bs h =
    ap (λ parts. filter filled (placed at parts)) (slice_split-cons_yes is_blank b bs h)
    ∙ ap (λ n. filter filled (placed n (slice_split is_blank bs))) (let e : at + 0 + 1 ≡ at + 1 = omega arith in e)

words_from-blanks_by_test : (t : Bool) (at b : ℕ) (bs : List ℕ) (n : ℕ) → is_blank b ≡ t → words_from (at + 1) bs ≡ words_from (at + 1 + n) (drop n bs) → words_from at (b ∷ bs) ≡ words_from (at + cond t (1 + n) 0) (drop (cond t (1 + n) 0) (b ∷ bs))
words_from-blanks_by_test true at b bs n e h =
    words_from-blank at b bs e
    ∙ (h ∙ (ap (λ m. words_from m (drop n bs)) (let same : at + 1 + n ≡ at + (1 + n) = omega arith in same) ∙ sym (ap (words_from (at + (1 + n))) (drop-one_more n b bs))))
words_from-blanks_by_test false at b bs n e h =
    ap (λ m. words_from m (b ∷ bs)) (let same : at ≡ at + 0 = omega arith in same)

words_from-blanks : (at : ℕ) (bs : List ℕ) → words_from at bs ≡ words_from (at + prefix_len is_blank bs) (drop (prefix_len is_blank bs) bs)
words_from-blanks at [] = refl
words_from-blanks at (b ∷ bs) = words_from-blanks_by_test (is_blank b) at b bs (prefix_len is_blank bs) refl (words_from-blanks (at + 1) bs)

after_by_test : (t : Bool) (at b : ℕ) (bs : List ℕ) (n : ℕ) → is_blank b ≡ t → filter filled (placed (at + 1) (parts_after (drop n bs))) ≡ words_from at (drop n bs) → filter filled (placed (at + 1) (parts_after (drop (cond (not t) (1 + n) 0) (b ∷ bs)))) ≡ words_from at (drop (cond (not t) (1 + n) 0) (b ∷ bs))
after_by_test true at b bs n e h = sym (words_from-blank at b bs e)
after_by_test false at b bs n e h = rw (drop-one_more n b bs) h

-- a blank, or nothing, stands after the first part
words_from-after : (at : ℕ) (bs : List ℕ) → filter filled (placed (at + 1) (parts_after (drop (word_length bs) bs))) ≡ words_from at (drop (word_length bs) bs)
words_from-after at [] = refl
words_from-after at (b ∷ bs) = after_by_test (is_blank b) at b bs (word_length bs) refl (words_from-after at bs)

filter-cons : (word : Piece) (words : List Piece) → 0 < length word.bytes → filter filled (word ∷ words) ≡ word ∷ filter filled words
filter-cons word words h = kept word.bytes h
  where
    kept : (bytes : List ℕ) → 0 < length bytes → cond (is_not_empty bytes) (word ∷ filter filled words) (filter filled words) ≡ word ∷ filter filled words
    kept [] h = absurd (omega arith)
    kept (b ∷ bytes) h = grind arith

word_length-le : (bs : List ℕ) → word_length bs ≤ length bs
word_length-le [] = omega arith
word_length-le (b ∷ bs) = by_test (is_blank b) (word_length-le bs)
  where
    by_test : (t : Bool) → word_length bs ≤ length bs → cond (not t) (1 + word_length bs) 0 ≤ length (b ∷ bs)
    by_test true h = omega arith
    by_test false h = omega arith

-- one word comes off the front of bytes that begin with it
words_from-front : (at : ℕ) (bs : List ℕ) → 0 < length bs → 0 < word_length bs → words_from at bs ≡ piece (take (word_length bs) bs) at ∷ words_from (at + word_length bs) (drop (word_length bs) bs)
words_from-front at bs some word =
    let n = word_length bs in
    let few : n ≤ length bs = word_length-le bs in
    let long : length (take n bs) ≡ n = omega (arith, length-take n bs) in
    ap (λ parts. filter filled (placed at parts)) (slice_split-front bs)
    ∙ (filter-cons (piece (take n bs) at) (placed (at + length (take n bs) + 1) (parts_after (drop n bs))) (omega arith)
    ∙ ap (λ rest. piece (take n bs) at ∷ rest) (ap (λ m. filter filled (placed (at + m + 1) (parts_after (drop n bs)))) long ∙ words_from-after (at + n) bs))

-- a line's words from after its blanks
words_at-blanks : (p : Piece) → words_at p ≡ words_at (without_blanks p)
words_at-blanks p =
    let n = prefix_len is_blank p.bytes in
    let few : n ≤ length p.bytes = prefix_len-le-length is_blank p.bytes in
    words_from-blanks p.at p.bytes ∙ ap (λ m. words_from (p.at + m) (drop n p.bytes)) (let e : n ≡ min n (length p.bytes) = omega arith in e)

-- the next word of a line, and the words after it
pub words_at-first : (p word : Piece) → first_word p ≡ Some word → words_at p ≡ word ∷ words_at (after_word p)
words_at-first p word h =
    let rest = without_blanks p in
    let found = some_by_test (length rest.bytes == 0) (front (word_length rest.bytes) rest) word h in
    let some : 0 < length rest.bytes = filled_by_test rest.bytes found.0 in
    let n = word_length rest.bytes in
    let few : n ≤ length rest.bytes = word_length-le rest.bytes in
    words_at-blanks p
    ∙ (words_from-front rest.at rest.bytes some (word_length-after_blanks p.bytes some)
    ∙ (ap (λ m. piece (take n rest.bytes) rest.at ∷ words_from (rest.at + m) (drop n rest.bytes)) (let e : n ≡ min n (length rest.bytes) = omega arith in e)
    ∙ ap (λ (w : Piece). w ∷ words_at (after_word p)) found.1))

-- a line of blanks alone has no words
pub words_at-empty : (p : Piece) → p.bytes ≡ [] → words_at p ≡ []
words_at-empty p h = ap (words_from p.at) h

pub words_at-no_first : (p : Piece) → first_word p ≡ None → words_at p ≡ []
words_at-no_first p h =
    let rest = without_blanks p in
    let none = empty_by_test rest.bytes (none_by_test (length rest.bytes == 0) (front (word_length rest.bytes) rest) h) in
    words_at-blanks p ∙ words_at-empty rest (nil_from_length rest.bytes none)

-- the offset of what stands after the last line makes no difference
rest_after_line : (p : Piece) → placed (p.at + length (take (line_length p.bytes) p.bytes) + 1) (lines (drop (line_length p.bytes + 1) p.bytes)) ≡ lines_at (after_line p)
rest_after_line p =
    let n = line_length p.bytes in
    elim (cases_lt n (length p.bytes)) [
      | inl within ↦ ap (λ m. placed m (lines (drop (n + 1) p.bytes))) (let e : p.at + length (take n p.bytes) + 1 ≡ p.at + min (n + 1) (length p.bytes) = omega (arith, length-take n p.bytes) in e)
      | inr last ↦ let none : drop (n + 1) p.bytes ≡ [] = nil_from_length (drop (n + 1) p.bytes) (omega (arith, length-drop (n + 1) p.bytes)) in ap (λ bytes. placed (p.at + length (take n p.bytes) + 1) (lines bytes)) none ∙ sym (ap (λ bytes. placed (p.at + min (n + 1) (length p.bytes)) (lines bytes)) none)
    ]

-- the next line of a text, and the lines after it
pub lines_at-first : (p line : Piece) → first_line p ≡ Some line → lines_at p ≡ line ∷ lines_at (after_line p)
lines_at-first p line h =
    let n = line_length p.bytes in
    let found = some_by_test (length p.bytes == 0) (front n p) line h in
    ap (placed p.at) (lines-front p.bytes (filled_by_test p.bytes found.0))
    ∙ (ap (λ rest. piece (take n p.bytes) p.at ∷ rest) (rest_after_line p)
    ∙ ap (λ (l : Piece). l ∷ lines_at (after_line p)) found.1)
