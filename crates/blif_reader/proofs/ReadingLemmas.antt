-- For `lines`: what is left to read after a word, or a line, was taken.
use Rattle.std.proofs.Common.{◌≡◌, Bool, true, false, cond, List, [], ◌∷◌, ◌++◌, Some, drop, get_or, refl, ap, sym, ◌∙◌, arith, append-nil}
use Rattle.std.specs.List.{filter}
use Rattle.text_core.specs.Piece.{Piece}
use Rattle.text_core.specs.Lines.{first_line, after_line}
use Rattle.text_core.specs.Words.{first_word, after_word}
use Rattle.blif_reader.specs.declared.lines.JoinedLines.{JoinedLines}
use Rattle.blif_reader.specs.JoinedLines.{lines_at, words_at, line_words, goes_on, onto_next, joined, has_words}
use Rattle.blif_reader.specs.Reading.{words_left, lines_left}
use Rattle.blif_reader.proofs.PlacedLemmas.{lines_at-first, words_at-first}

-- a line is being read, that goes on or not, and this is after it
abbrev reading : Piece → Bool → Piece → JoinedLines
reading line on rest = record { line = line; goes_on = on; rest = rest }

onto_next-parts : (words : List Piece) (lines : List (List Piece)) → onto_next words lines ≡ (words ++ get_or lines 0 []) ∷ drop 1 lines
onto_next-parts words [] = ap (λ ws. ws ∷ []) (sym (append-nil words))
onto_next-parts words (next ∷ more) = refl

parts : (t : Bool) (words : List Piece) (lines : List (List Piece)) → cond t (onto_next words lines) (words ∷ lines) ≡ (words ++ cond t (get_or lines 0 []) []) ∷ cond t (drop 1 lines) lines
parts true words lines = onto_next-parts words lines
parts false words lines = ap (λ ws. ws ∷ lines) (sym (append-nil words))

-- the joined lines from a line on
pub joined-first : (p line : Piece) → first_line p ≡ Some line → joined (lines_at p) ≡ (line_words line ++ cond (goes_on line.bytes) (get_or (joined (lines_at (after_line p))) 0 []) []) ∷ lines_left (reading line (goes_on line.bytes) (after_line p))
joined-first p line h =
    ap joined (lines_at-first p line h) ∙ parts (goes_on line.bytes) (line_words line) (joined (lines_at (after_line p)))

-- a line that was entered
pub entered : (p line content : Piece) → first_line p ≡ Some line → words_at content ≡ line_words line → joined (lines_at p) ≡ words_left (reading content (goes_on line.bytes) (after_line p)) ∷ lines_left (reading line (goes_on line.bytes) (after_line p))
entered p line content h words =
    joined-first p line h ∙ ap (λ ws. (ws ++ cond (goes_on line.bytes) (get_or (joined (lines_at (after_line p))) 0 []) []) ∷ lines_left (reading line (goes_on line.bytes) (after_line p))) (sym words)

pub entered_as : (p line content rest : Piece) (on : Bool) → Some line ≡ first_line p → words_at content ≡ line_words line → on ≡ goes_on line.bytes → rest ≡ after_line p → joined (lines_at p) ≡ words_left (reading content on rest) ∷ lines_left (reading content on rest)
entered_as p line content rest on h words o r =
    entered p line content (sym h) words
    ∙ (ap (λ t. words_left (reading content t (after_line p)) ∷ lines_left (reading content t (after_line p))) (sym o) ∙ ap (λ q. words_left (reading content on q) ∷ lines_left (reading content on q)) (sym r))

-- between joined lines those after are left
pub between : (lines : JoinedLines) → lines.goes_on ≡ false → lines_left lines ≡ joined (lines_at lines.rest)
between lines h = ap (λ t. lines_left (reading lines.line t lines.rest)) h

filter-line : (word : Piece) (words : List Piece) (lines : List (List Piece)) → filter has_words ((word ∷ words) ∷ lines) ≡ (word ∷ words) ∷ filter has_words lines
filter-line word words lines = grind arith

-- a line with a word was entered
pub first_of_lines : (all lines new : List (List Piece)) (word : Piece) (entered words : List Piece) → all ≡ entered ∷ lines → entered ≡ word ∷ words → new ≡ lines → filter has_words all ≡ (word ∷ words) ∷ filter has_words new
first_of_lines all lines new word entered words a e n =
    ap (filter has_words) (a ∙ (ap (λ ws. ws ∷ lines) e ∙ ap (λ ls. (word ∷ words) ∷ ls) (sym n))) ∙ filter-line word words new

-- a line without words was entered
pub none_of_lines : (all lines new : List (List Piece)) (entered : List Piece) → all ≡ entered ∷ lines → entered ≡ [] → new ≡ lines → filter has_words new ≡ filter has_words all
none_of_lines all lines new entered a e n =
    ap (filter has_words) n ∙ sym (ap (filter has_words) (a ∙ ap (λ ws. ws ∷ lines) e))

-- a word was taken from a line
pub word_taken : (old new word : Piece) (after : List Piece) → Some word ≡ first_word old → new ≡ after_word old → words_at old ++ after ≡ word ∷ (words_at new ++ after)
word_taken old new word after h n =
    ap (λ ws. ws ++ after) (words_at-first old word (sym h)) ∙ ap (λ p. word ∷ (words_at p ++ after)) (sym n)

-- a line that has no words and doesn't go on
pub nothing_left : (line rest : Piece) (on : Bool) → on ≡ false → words_at line ≡ [] → words_left (reading line on rest) ≡ []
nothing_left line rest on o h = ap (λ t. words_left (reading line t rest)) o ∙ (append-nil (words_at line) ∙ h)

pub same_left : (line other rest : Piece) (on : Bool) → words_at line ≡ words_at other → words_left (reading line on rest) ≡ words_left (reading other on rest)
same_left line other rest on h = ap (λ ws. ws ++ cond on (get_or (joined (lines_at rest)) 0 []) []) h
