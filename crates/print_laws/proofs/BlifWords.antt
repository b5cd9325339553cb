-- A text of plain words, one blank between each two, has these words on its lines when it is read as BLIF.
use Rattle.std.proofs.Common.{◌≡◌, ℕ, ◌+◌, ◌-◌, ◌<◌, ◌==◌, Bool, true, false, not, List, [], ◌∷◌, ◌++◌, length, map, filter, reverse, get_or, take, All, if◌then◌else◌, refl, sym, ap, ◌∙◌, arith, append_assoc, length-append}
use Rattle.std.specs.List.{join_with_byte, slice_split, prefix_len, before_first, position_or_len}
use Rattle.std.proofs.lemmas.Bool.{ne_eqb}
use Rattle.std.proofs.lemmas.Bool.Decides.{nat_tests}
use Rattle.std.proofs.lemmas.List.{take_all, get_or-append-add, reverse-append}
use Rattle.std.proofs.lemmas.List.Elements.{All-head, All-tail, All-map}
use Rattle.std.proofs.lemmas.List.Sums.{position_or_len_is}
use Rattle.std.proofs.lemmas.List.Splits.{slice_split_none, slice_split_at}
use Rattle.text_core.specs.Bytes.{is_blank, is_line_feed}
use Rattle.text_core.specs.Lines.{IsLine}
use Rattle.text_core.specs.Words.{is_not_empty}
use Rattle.text_core.specs.Piece.{Piece}
use Rattle.blif_reader.specs.JoinedLines.{placed, words_at, is_comment_sign, trimmed, content, ends_with_backslash, goes_on, without_backslash, line_words, onto_next, joined, has_words}
use Rattle.blif_reader.specs.Blif.{blif_lines}
use Rattle.net_print.specs.BlifLines.{words_text}
use Rattle.print_laws.proofs.NumberLines.{all_joined}
use Rattle.print_laws.proofs.Aag.{lines_of}

-- a byte that stands for itself wherever it stands in a word
pub record IsPlainByte (byte : ℕ) : Type 0 where
  pub no_blank : is_blank byte ≡ false
  pub no_line_feed : is_line_feed byte ≡ false
  pub no_comment : is_comment_sign byte ≡ false
  pub no_backslash : (byte == 92) ≡ false

-- a word of plain bytes
pub record IsPlain (word : List ℕ) : Type 0 where
  pub filled : 0 < length word
  pub plain : All IsPlainByte word

-- a line of plain words
pub record IsPlainLine (words : List (List ℕ)) : Type 0 where
  pub some : 0 < length words
  pub all : All IsPlain words

-- The bytes end with one of which this holds.
record EndsWith (P : ℕ → Type 0) (bytes : List ℕ) : Type 0 where
  front : List ℕ
  last : ℕ
  is : bytes ≡ front ++ last ∷ []
  good : P last

word_ends : (P : ℕ → Type 0) (word : List ℕ) → 0 < length word → All P word → EndsWith P word
word_ends P [] some all = absurd (omega (arith, some))
word_ends P (byte ∷ []) some all = record { front = []; last = byte; is = refl; good = All-head P byte [] all }
word_ends P (byte ∷ next ∷ word) some all =
    let rest = word_ends P (next ∷ word) (omega arith) (All-tail P byte (next ∷ word) all) in
    record { front = byte ∷ rest.front; last = rest.last; is = ap (λ bytes. byte ∷ bytes) rest.is; good = rest.good }

line_ends : (word : List ℕ) (words : List (List ℕ)) → All IsPlain (word ∷ words) → EndsWith IsPlainByte (join_with_byte 32 (word ∷ words))
line_ends word [] all =
    let plain = All-head IsPlain word [] all in
    word_ends IsPlainByte word plain.filled plain.plain
line_ends word (next ∷ words) all =
    let rest = line_ends next words (All-tail IsPlain word (next ∷ words) all) in
    record {
      front = word ++ 32 ∷ rest.front;
      last = rest.last;
      is = ap (λ bytes. word ++ 32 ∷ bytes) rest.is ∙ sym (append_assoc word (32 ∷ rest.front) (rest.last ∷ []));
      good = rest.good;
    }

reversed : (front : List ℕ) (last : ℕ) → reverse (front ++ last ∷ []) ≡ last ∷ reverse front
reversed front last = reverse-append front (last ∷ [])

no_blanks_at_end : (bytes : List ℕ) → EndsWith IsPlainByte bytes → prefix_len is_blank (reverse bytes) ≡ 0
no_blanks_at_end bytes ends =
    ap (λ bs. prefix_len is_blank (reverse bs)) ends.is
    ∙ ap (prefix_len is_blank) (reversed ends.front ends.last)
    ∙ rw ends.good.no_blank refl

content_same : (bytes : List ℕ) → All (λ byte. is_comment_sign byte ≡ false) bytes → EndsWith IsPlainByte bytes → content bytes ≡ bytes
content_same bytes all ends =
    let place : position_or_len is_comment_sign bytes ≡ length bytes =
    position_or_len_is is_comment_sign bytes (length bytes) 0 (omega arith) (λ k h. all k 0 h) (λ h. absurd (omega (arith, h))) in
    let whole : before_first is_comment_sign bytes ≡ bytes = ap (λ n. take n bytes) place ∙ take_all (length bytes) bytes (omega arith) in
    ap trimmed whole
    ∙ ap (λ n. take (length bytes - n) bytes) (no_blanks_at_end bytes ends)
    ∙ take_all (length bytes - 0) bytes (omega arith)

no_backslash_at_end : (bytes : List ℕ) → EndsWith IsPlainByte bytes → ends_with_backslash bytes ≡ false
no_backslash_at_end bytes ends =
    let place : length bytes - 1 ≡ length ends.front + 0 = omega (arith, ap length ends.is, length-append ends.front (ends.last ∷ [])) in
    let last : get_or bytes (length bytes - 1) 0 ≡ ends.last =
    ap (λ n. get_or bytes n 0) place ∙ ap (λ bs. get_or bs (length ends.front + 0) 0) ends.is ∙ get_or-append-add ends.front (ends.last ∷ []) 0 0 in
    ap (λ byte. byte == 92) last ∙ ends.good.no_backslash

-- the words of the line
parts_are : (word : List ℕ) (words : List (List ℕ)) → All IsPlain (word ∷ words) → slice_split is_blank (join_with_byte 32 (word ∷ words)) ≡ word ∷ words
parts_are word [] all =
    slice_split_none is_blank word (λ k d h. ((All-head IsPlain word [] all).plain k d h).no_blank)
parts_are word (next ∷ words) all =
    slice_split_at is_blank word 32 (join_with_byte 32 (next ∷ words)) (λ k d h. ((All-head IsPlain word (next ∷ words) all).plain k d h).no_blank) refl
    ∙ ap (λ parts. word ∷ parts) (parts_are next words (All-tail IsPlain word (next ∷ words) all))

filled_test : (word : List ℕ) → 0 < length word → is_not_empty word ≡ true
filled_test [] some = absurd (omega (arith, some))
filled_test (byte ∷ word) some = grind (arith, nat_tests)

all_kept : (at : ℕ) (words : List (List ℕ)) → All IsPlain words → filter (λ word. is_not_empty word.bytes) (placed at words) ≡ placed at words
all_kept at [] all = refl
all_kept at (word ∷ words) all =
    let first : Piece = record { bytes = word; at = at } in
    let more = placed (at + length word + 1) words in
    let kept = filter (λ (w : Piece). is_not_empty w.bytes) more in
    ap (λ (t : Bool). if t then first ∷ kept else kept) (filled_test word (All-head IsPlain word words all).filled)
    ∙ ap (λ (rest : List Piece). first ∷ rest) (all_kept (at + length word + 1) words (All-tail IsPlain word words all))

line_plain : (words : List (List ℕ)) → IsPlainLine words → All (λ byte. is_comment_sign byte ≡ false) (join_with_byte 32 words)
line_plain words line =
    all_joined (λ byte. is_comment_sign byte ≡ false) words refl (λ k d h i e there. ((line.all k d h).plain i e there).no_comment)

pub line_on_line : (words : List (List ℕ)) → IsPlainLine words → IsLine (join_with_byte 32 words)
line_on_line words line =
    all_joined (λ byte. is_line_feed byte ≡ false) words refl (λ k d h i e there. ((line.all k d h).plain i e there).no_line_feed)

-- a line's pieces, without a comment or a backslash
record ReadsLine (at : ℕ) (words : List (List ℕ)) : Type 0 where
  ends : goes_on (join_with_byte 32 words) ≡ false
  pieces : line_words (record { bytes = join_with_byte 32 words; at = at }) ≡ placed at words

reads_line : (at : ℕ) (words : List (List ℕ)) → IsPlainLine words → ReadsLine at words
reads_line at [] line = absurd (omega (arith, line.some))
reads_line at (word ∷ words) line =
    let bytes = join_with_byte 32 (word ∷ words) in
    let ends = line_ends word words line.all in
    let same = content_same bytes (line_plain (word ∷ words) line) ends in
    let none = no_backslash_at_end bytes ends in
    record {
      ends = ap ends_with_backslash same ∙ none;
      pieces =
          ap (λ (bs : List ℕ). words_at (record { bytes = without_backslash bs; at = at })) same
          ∙ ap (λ (t : Bool). words_at (record { bytes = if t then take (length bytes - 1) bytes else bytes; at = at })) none
          ∙ ap (λ (parts : List (List ℕ)). filter (λ (word : Piece). is_not_empty word.bytes) (placed at parts)) (parts_are word words line.all)
          ∙ all_kept at (word ∷ words) line.all;
    }

-- the words of lines, each with its offset
abbrev pub lined : ℕ → List (List (List ℕ)) → List (List Piece)
lined at [] = []
lined at (words ∷ rest) = placed at words ∷ lined (at + length (join_with_byte 32 words) + 1) rest

joined_are : (at : ℕ) (all : List (List (List ℕ))) → All IsPlainLine all → joined (placed at (map (join_with_byte 32) all)) ≡ lined at all
joined_are at [] plain = refl
joined_are at (words ∷ rest) plain =
    let bytes = join_with_byte 32 words in
    let line : Piece = record { bytes = bytes; at = at } in
    let first = reads_line at words (All-head IsPlainLine words rest plain) in
    let more = joined (placed (at + length bytes + 1) (map (join_with_byte 32) rest)) in
    ap (λ (t : Bool). if t then onto_next (line_words line) more else line_words line ∷ more) first.ends
    ∙ ap (λ (ws : List Piece). ws ∷ more) first.pieces
    ∙ ap (λ (ls : List (List Piece)). placed at words ∷ ls) (joined_are (at + length bytes + 1) rest (All-tail IsPlainLine words rest plain))

some_words : (at : ℕ) (words : List (List ℕ)) → 0 < length words → has_words (placed at words) ≡ true
some_words at [] some = absurd (omega (arith, some))
some_words at (word ∷ words) some = ap not (ne_eqb (length (placed at (word ∷ words))) 0 (λ e. omega (arith, e)))

filled_lines : (at : ℕ) (all : List (List (List ℕ))) → All IsPlainLine all → filter has_words (lined at all) ≡ lined at all
filled_lines at [] plain = refl
filled_lines at (words ∷ rest) plain =
    let more = lined (at + length (join_with_byte 32 words) + 1) rest in
    let kept = filter has_words more in
    ap (λ (t : Bool). if t then placed at words ∷ kept else kept) (some_words at words (All-head IsPlainLine words rest plain).some)
    ∙ ap (λ (ls : List (List Piece)). placed at words ∷ ls) (filled_lines (at + length (join_with_byte 32 words) + 1) rest (All-tail IsPlainLine words rest plain))

pub blif_lines_are : (all : List (List (List ℕ))) → All IsPlainLine all → blif_lines (words_text all) ≡ lined 0 all
blif_lines_are all plain =
    let text = map (join_with_byte 32) all in
    let on_lines : All IsLine text = All-map IsLine (join_with_byte 32) all (λ k d h. line_on_line _ (plain k d h)) in
    ap (λ (ls : List (List ℕ)). filter has_words (joined (placed 0 ls))) (lines_of text on_lines)
    ∙ ap (filter has_words) (joined_are 0 all plain)
    ∙ filled_lines 0 all plain
