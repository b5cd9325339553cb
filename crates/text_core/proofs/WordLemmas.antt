-- What the definition of words says of a line's front.
use Rattle.std.proofs.Common.{◌≡◌, ◌==◌, ℕ, suc, ◌+◌, ◌<◌, Bool, true, false, cond, not, List, [], ◌∷◌, ◌++◌, Some, None, length, take, drop, refl, ap, sym, ◌∙◌, arith, length-take}
use Rattle.std.specs.List.{All, filter, onto_first, prefix_len, slice_split}
use Rattle.std.proofs.lemmas.List.Splits.{slice_split-cons_yes, slice_split_at, slice_split_none}
use Rattle.std.proofs.lemmas.List.Elements.{All-nil, All-cons, All-head, All-tail, All-filter, filter_passes}
use Rattle.std.proofs.lemmas.Bool.{not-true}
use Rattle.std.proofs.lemmas.List.{nil_from_length}
use Rattle.text_core.specs.Bytes.{is_blank}
use Rattle.text_core.specs.Piece.{Piece, front, past}
use Rattle.text_core.specs.Words.{is_not_empty, words, word_length, without_blanks, first_word, after_word, IsWord}
use Rattle.text_core.proofs.EmptyTests.{filled_by_test, empty_by_test, some_by_test, none_by_test}

-- a blank at the front changes no word
pub words-blank : (b : ℕ) (bs : List ℕ) → is_blank b ≡ true → words (b ∷ bs) ≡ words bs
words-blank b bs h = ap (filter is_not_empty) (slice_split-cons_yes is_blank b bs h)

pub drop-one_more : (n b : ℕ) (bs : List ℕ) → drop (1 + n) (b ∷ bs) ≡ drop n bs
drop-one_more n b bs = let e : 1 + n ≡ suc n = omega arith in rw e refl

-- nor do all the blanks at the front
words-blanks_by_test : (t : Bool) (b : ℕ) (bs : List ℕ) (n : ℕ) → is_blank b ≡ t → words bs ≡ words (drop n bs) → words (b ∷ bs) ≡ words (drop (cond t (1 + n) 0) (b ∷ bs))
words-blanks_by_test true b bs n e h = words-blank b bs e ∙ (h ∙ sym (ap words (drop-one_more n b bs)))
words-blanks_by_test false b bs n e h = refl

pub words-blanks : (bs : List ℕ) → words bs ≡ words (drop (prefix_len is_blank bs) bs)
words-blanks [] = refl
words-blanks (b ∷ bs) = words-blanks_by_test (is_blank b) b bs (prefix_len is_blank bs) refl (words-blanks bs)

-- the parts between blanks, after the blank that comes first
abbrev pub parts_after : List ℕ → List (List ℕ)
parts_after [] = []
parts_after (b ∷ bs) = slice_split is_blank bs

-- the first part ends before the first blank
pub slice_split-front : (bs : List ℕ) → slice_split is_blank bs ≡ take (word_length bs) bs ∷ parts_after (drop (word_length bs) bs)
slice_split-front [] = refl
slice_split-front (b ∷ bs) =
    elim (is_blank b) as (λ t. cond t ([] ∷ slice_split is_blank bs) (onto_first b (slice_split is_blank bs)) ≡ take (cond (not t) (1 + word_length bs) 0) (b ∷ bs) ∷ parts_after (drop (cond (not t) (1 + word_length bs) 0) (b ∷ bs))) [
      | true ↦ refl
      | false ↦ let e : 1 + word_length bs ≡ suc (word_length bs) = omega arith in rw (slice_split-front bs, e) refl
    ]

-- a blank, or nothing, stands after the first part
words-after_by_test : (t : Bool) (b : ℕ) (bs : List ℕ) (n : ℕ) → is_blank b ≡ t → filter is_not_empty (parts_after (drop n bs)) ≡ words (drop n bs) → filter is_not_empty (parts_after (drop (cond (not t) (1 + n) 0) (b ∷ bs))) ≡ words (drop (cond (not t) (1 + n) 0) (b ∷ bs))
words-after_by_test true b bs n e h = sym (words-blank b bs e)
words-after_by_test false b bs n e h = rw (drop-one_more n b bs) h

words-after : (bs : List ℕ) → filter is_not_empty (parts_after (drop (word_length bs) bs)) ≡ words (drop (word_length bs) bs)
words-after [] = refl
words-after (b ∷ bs) = words-after_by_test (is_blank b) b bs (word_length bs) refl (words-after bs)

filter-cons : (part : List ℕ) (parts : List (List ℕ)) → 0 < length part → filter is_not_empty (part ∷ parts) ≡ part ∷ filter is_not_empty parts
filter-cons [] parts h = absurd (omega arith)
filter-cons (b ∷ part) parts h = grind arith

-- one word comes off the front of a line that begins with it
pub words-front : (bs : List ℕ) → 0 < length bs → 0 < word_length bs → words bs ≡ take (word_length bs) bs ∷ words (drop (word_length bs) bs)
words-front bs some word =
    ap (filter is_not_empty) (slice_split-front bs)
    ∙ (filter-cons (take (word_length bs) bs) (parts_after (drop (word_length bs) bs)) (omega (arith, length-take (word_length bs) bs)) ∙ ap (λ rest. take (word_length bs) bs ∷ rest) (words-after bs))

-- what stands after the blanks at the front begins with a word, if it isn't empty
word_length-by_test : (t : Bool) (b : ℕ) (bs : List ℕ) (n : ℕ) → is_blank b ≡ t → (0 < length (drop n bs) → 0 < word_length (drop n bs)) → 0 < length (drop (cond t (1 + n) 0) (b ∷ bs)) → 0 < word_length (drop (cond t (1 + n) 0) (b ∷ bs))
word_length-by_test true b bs n e h some = let e = drop-one_more n b bs in rw e (h (rw e at some))
word_length-by_test false b bs n e h some = rw e (omega arith)

pub word_length-after_blanks : (bs : List ℕ) → 0 < length (drop (prefix_len is_blank bs) bs) → 0 < word_length (drop (prefix_len is_blank bs) bs)
word_length-after_blanks [] h = absurd (omega arith)
word_length-after_blanks (b ∷ bs) h =
    word_length-by_test (is_blank b) b bs (prefix_len is_blank bs) refl (word_length-after_blanks bs) h

-- the next word of a line, and the words after it
pub words-next : (line rest word after : Piece) (blanks count : ℕ) → blanks ≡ prefix_len is_blank line.bytes → rest ≡ past blanks line → count ≡ word_length rest.bytes → word ≡ front count rest → after ≡ past count rest → 0 < length rest.bytes → words line.bytes ≡ word.bytes ∷ words after.bytes
words-next line rest word after blanks count b r c w a some =
    let following : rest.bytes ≡ drop (prefix_len is_blank line.bytes) line.bytes = ap (λ p. p.bytes) r ∙ ap (λ n. drop n line.bytes) b in
    let starts : 0 < word_length rest.bytes = rw following (word_length-after_blanks line.bytes (rw following at some)) in
    let front_is : word.bytes ≡ take (word_length rest.bytes) rest.bytes = ap (λ p. p.bytes) w ∙ ap (λ n. take n rest.bytes) c in
    let after_is : after.bytes ≡ drop (word_length rest.bytes) rest.bytes = ap (λ p. p.bytes) a ∙ ap (λ n. drop n rest.bytes) c in
    let first : words rest.bytes ≡ take (word_length rest.bytes) rest.bytes ∷ words (drop (word_length rest.bytes) rest.bytes) = words-front rest.bytes some starts in
    let all : words line.bytes ≡ words rest.bytes = words-blanks line.bytes ∙ ap words (sym following) in
    cc

-- a line of blanks alone has no words
pub words-none : (line rest : Piece) (blanks : ℕ) → blanks ≡ prefix_len is_blank line.bytes → rest ≡ past blanks line → length rest.bytes ≡ 0 → (words line.bytes ≡ []) × (rest.bytes ≡ [])
words-none line rest blanks b r none =
    let following : rest.bytes ≡ drop (prefix_len is_blank line.bytes) line.bytes = ap (λ p. p.bytes) r ∙ ap (λ n. drop n line.bytes) b in
    let empty : rest.bytes ≡ [] = nil_from_length rest.bytes none in
    (words-blanks line.bytes ∙ ap words (sym following ∙ empty), empty)

pub words-first : (p word : Piece) → first_word p ≡ Some word → words p.bytes ≡ word.bytes ∷ words (after_word p).bytes
words-first p word h =
    let rest = without_blanks p in
    let found = some_by_test (length rest.bytes == 0) (front (word_length rest.bytes) rest) word h in
    words-next p rest word (after_word p) (prefix_len is_blank p.bytes) (word_length rest.bytes) refl refl refl (sym found.1) refl (filled_by_test rest.bytes found.0)

pub words-no_first : (p : Piece) → first_word p ≡ None → words p.bytes ≡ []
words-no_first p h =
    let rest = without_blanks p in
    let none = empty_by_test rest.bytes (none_by_test (length rest.bytes == 0) (front (word_length rest.bytes) rest) h) in
    (words-none p rest (prefix_len is_blank p.bytes) refl refl none).0

-- the parts between blanks have no blank
abbrev HasNoBlank : List ℕ → Type 0
HasNoBlank part = All (λ byte. is_blank byte ≡ false) part

each_by_test : (t : Bool) (b : ℕ) (parts : List (List ℕ)) → is_blank b ≡ t → All HasNoBlank parts → All HasNoBlank (cond t ([] ∷ parts) (onto_first b parts))
each_by_test true b parts e h = All-cons HasNoBlank [] parts (All-nil (λ byte. is_blank byte ≡ false)) h
each_by_test false b [] e h =
    All-cons HasNoBlank (b ∷ []) [] (All-cons (λ byte. is_blank byte ≡ false) b [] e (All-nil (λ byte. is_blank byte ≡ false))) h
each_by_test false b (part ∷ parts) e h =
    All-cons HasNoBlank (b ∷ part) parts (All-cons (λ byte. is_blank byte ≡ false) b part e (All-head HasNoBlank part parts h)) (All-tail HasNoBlank part parts h)

slice_split-each : (line : List ℕ) → All HasNoBlank (slice_split is_blank line)
slice_split-each [] = All-cons HasNoBlank [] [] (All-nil (λ byte. is_blank byte ≡ false)) (All-nil HasNoBlank)
slice_split-each (b ∷ bs) = each_by_test (is_blank b) b (slice_split is_blank bs) refl (slice_split-each bs)

filled : (part : List ℕ) → is_not_empty part ≡ true → 0 < length part
filled part h = filled_by_test part (not-true (length part == 0) h)

-- each word is a run of bytes that aren't blanks
pub words-each : (line : List ℕ) → All IsWord (words line)
words-each line k d below =
    (filled _ (filter_passes is_not_empty (slice_split is_blank line) k d below), All-filter is_not_empty HasNoBlank (slice_split is_blank line) (slice_split-each line) k d below)

-- a word and a blank, whatever follows
pub words-word : (word line : List ℕ) (byte : ℕ) → IsWord word → is_blank byte ≡ true → words (word ++ byte ∷ line) ≡ word ∷ words line
words-word word line byte h e =
    ap (filter is_not_empty) (slice_split_at is_blank word byte line h.1 e) ∙ filter-cons word (slice_split is_blank line) h.0

pub words-last : (word : List ℕ) → IsWord word → words word ≡ word ∷ []
words-last word h = ap (filter is_not_empty) (slice_split_none is_blank word h.1) ∙ filter-cons word [] h.0
