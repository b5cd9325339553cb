-- The joined lines of a BLIF file (Berkeley Logic Interchange Format, University of California at Berkeley, 1992): `#`
-- begins a comment, and a line that ends with `\` goes on on the next one.
use Rattle.std.specs.Prelude.{ℕ, ◌+◌, ◌-◌, ◌==◌, Bool, not, List, [], ◌∷◌, ◌++◌, length, take, filter, reverse, slice_index_or, if◌then◌else◌}
use Rattle.std.specs.List.{slice_split, prefix_len, before_first}
use Rattle.text_core.specs.Bytes.{is_blank}
use Rattle.text_core.specs.Piece.{Piece}
use Rattle.text_core.specs.Lines.{lines}
use Rattle.text_core.specs.Words.{is_not_empty}

-- parts of a text that stand one byte apart, each with its offset
abbrev pub placed : ℕ → List (List ℕ) → List Piece
placed at [] = []
placed at (part ∷ parts) = record { bytes = part; at = at } ∷ placed (at + length part + 1) parts

-- the lines of a text, with their offsets
abbrev pub lines_at : Piece → List Piece
lines_at text = placed text.at (lines text.bytes)

-- the words of a line, with their offsets
abbrev pub words_at : Piece → List Piece
words_at line = filter (λ word. is_not_empty word.bytes) (placed line.at (slice_split is_blank line.bytes))

-- the number sign `#`
abbrev pub is_comment_sign : ℕ → Bool
is_comment_sign byte = byte == 35

-- without the blanks at the end
abbrev pub trimmed : List ℕ → List ℕ
trimmed bytes = take (length bytes - prefix_len is_blank (reverse bytes)) bytes

-- a line without its comment, and without the blanks that are then at its end
abbrev pub content : List ℕ → List ℕ
content line = trimmed (before_first is_comment_sign line)

-- whether bytes end with a backslash
abbrev pub ends_with_backslash : List ℕ → Bool
ends_with_backslash bytes = slice_index_or bytes (length bytes - 1) 0 == 92

-- whether a line goes on on the next one
abbrev pub goes_on : List ℕ → Bool
goes_on line = ends_with_backslash (content line)

-- the backslash itself is read as a blank, so that it parts words and is in none
abbrev pub without_backslash : List ℕ → List ℕ
without_backslash bytes = if ends_with_backslash bytes then take (length bytes - 1) bytes else bytes

-- the words that stand on a line
abbrev pub line_words : Piece → List Piece
line_words line = words_at (record { bytes = without_backslash (content line.bytes); at = line.at })

-- words in front of those of the next joined line; there is none where the last line of a text ends with a backslash
abbrev pub onto_next : List Piece → List (List Piece) → List (List Piece)
onto_next words [] = words ∷ []
onto_next words (next ∷ more) = (words ++ next) ∷ more

-- the words of each joined line
abbrev pub joined : List Piece → List (List Piece)
joined [] = []
joined (line ∷ lines) =
    if goes_on line.bytes then onto_next (line_words line) (joined lines)
    else line_words line ∷ joined lines

-- there is a word
abbrev pub has_words : List Piece → Bool
has_words line = not (length line == 0)

-- the joined lines of a text that have words
abbrev pub joined_lines : Piece → List (List Piece)
joined_lines text = filter has_words (joined (lines_at text))

-- word k of a joined line
abbrev pub word_of : List Piece → ℕ → Piece
word_of line k = slice_index_or line k (record { bytes = []; at = 0 })
