-- Words: the maximal runs of bytes that aren't blanks, as the fields of a line in POSIX ("Field", as `awk` splits a
-- line by default).
use Rattle.std.specs.Prelude.{◌≡◌, ℕ, ◌<◌, Bool, false, ◌==◌, not, List, length, filter, Option, Some, None, if◌then◌else◌}
use Rattle.std.specs.List.{All, slice_split, prefix_len, position_or_len}
use Rattle.text_core.specs.Bytes.{is_blank}
use Rattle.text_core.specs.Piece.{Piece, front, past}

-- there is a byte
abbrev pub is_not_empty : List ℕ → Bool
is_not_empty bytes = not (length bytes == 0)

-- the words of a line: what stands between its blanks, where that isn't empty
abbrev pub words : List ℕ → List (List ℕ)
words line = filter is_not_empty (slice_split is_blank line)

-- one byte or more, and no blank
abbrev pub IsWord : List ℕ → Type 0
IsWord word = (0 < length word) × All (λ byte. is_blank byte ≡ false) word

-- a line without the blanks that it begins with
abbrev pub without_blanks : Piece → Piece
without_blanks p = past (prefix_len is_blank p.bytes) p

-- how many bytes stand before the first blank, or all where there is none
abbrev pub word_length : List ℕ → ℕ
word_length bytes = position_or_len is_blank bytes

-- the first word of a line, if it has one
abbrev pub first_word : Piece → Option Piece
first_word p =
    let rest = without_blanks p in
    if length rest.bytes == 0 then None else Some (front (word_length rest.bytes) rest)

-- what is left of a line after its first word, which is its end where it has no word
abbrev pub after_word : Piece → Piece
after_word p = let rest = without_blanks p in past (word_length rest.bytes) rest
