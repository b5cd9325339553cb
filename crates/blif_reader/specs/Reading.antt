-- What is left to read of a BLIF file: the words of the joined line that is being read, and the joined lines after it.
use Rattle.std.specs.Prelude.{◌≡◌, ℕ, ◌+◌, ◌≤◌, false, List, [], ◌∷◌, ◌++◌, length, drop, filter, slice_index_or, Option, None, Some, if◌then◌else◌}
use Rattle.text_core.specs.Piece.{Piece}
use Rattle.blif_reader.specs.declared.lines.JoinedLines.{JoinedLines}
use Rattle.blif_reader.specs.JoinedLines.{lines_at, words_at, joined, has_words}

-- the words that are left of the line that is being read: its own, and where it goes on those of the next joined line
abbrev pub words_left : JoinedLines → List Piece
words_left lines =
    words_at lines.line ++ (if lines.goes_on then slice_index_or (joined (lines_at lines.rest)) 0 [] else [])

-- the joined lines after it
abbrev pub lines_left : JoinedLines → List (List Piece)
lines_left lines = if lines.goes_on then drop 1 (joined (lines_at lines.rest)) else joined (lines_at lines.rest)

-- the joined line whose first word was read
abbrev pub line_from : Piece → JoinedLines → List Piece
line_from first lines = first ∷ words_left lines

-- how much is left: the bytes after the line, and one more where it goes on
abbrev pub size_left : JoinedLines → ℕ
size_left lines = length lines.rest.bytes + (if lines.goes_on then 1 else 0)

-- an optional word is the first of these, and those are left
abbrev pub TakesWord : Option Piece → List Piece → List Piece → Type 0
TakesWord None old new = (old ≡ []) × (new ≡ [])
TakesWord (Some word) old new = old ≡ word ∷ new

-- an optional word begins the first line that has words, of which those are left; and these lines stand after it
abbrev pub TakesLine : Option Piece → List (List Piece) → List Piece → List (List Piece) → Type 0
TakesLine None old words new = filter has_words old ≡ []
TakesLine (Some word) old words new = filter has_words old ≡ (word ∷ words) ∷ filter has_words new

-- The same words and lines are left as before, of no more bytes.
pub record IsAsLeft (old new : JoinedLines) : Type 0 where
  pub words : words_left new ≡ words_left old
  pub lines : lines_left new ≡ lines_left old
  pub shorter : length new.rest.bytes ≤ length old.rest.bytes

-- Between joined lines: the same lines that have words are left.
pub record IsBetween (old new : JoinedLines) : Type 0 where
  pub lines : filter has_words (lines_left new) ≡ filter has_words (lines_left old)
  pub ended : new.goes_on ≡ false
