-- Lines, as POSIX defines "Line" (The Open Group Base Specifications, Definitions): bytes that are no line feed, and a
-- line feed at their end. A last line whose line feed is missing ("Incomplete Line") counts too.
use Rattle.std.specs.Prelude.{◌≡◌, ℕ, ◌+◌, ◌==◌, false, List, [], ◌∷◌, ◌++◌, length, Option, Some, None, if◌then◌else◌}
use Rattle.std.specs.List.{All, onto_first, position_or_len, flat_map}
use Rattle.text_core.specs.Bytes.{is_line_feed}
use Rattle.text_core.specs.Piece.{Piece, front, past}

-- the lines of a text, without their line feeds: nothing after the last line feed is no line
abbrev pub lines : List ℕ → List (List ℕ)
lines [] = []
lines (byte ∷ bytes) = if is_line_feed byte then [] ∷ lines bytes else onto_first byte (lines bytes)

-- the text of these lines, each with a line feed at its end
abbrev pub text_of_lines : List (List ℕ) → List ℕ
text_of_lines parts = flat_map (λ line. line ++ 10 ∷ []) parts

-- a line, without its line feed, has no other one
abbrev pub IsLine : List ℕ → Type 0
IsLine line = All (λ byte. is_line_feed byte ≡ false) line

-- how many bytes stand before the first line feed, or all where there is none
abbrev pub line_length : List ℕ → ℕ
line_length bytes = position_or_len is_line_feed bytes

-- the first line of what is left, without its line feed; there is one where anything is left
abbrev pub first_line : Piece → Option Piece
first_line p = if length p.bytes == 0 then None else Some (front (line_length p.bytes) p)

-- what is left after the first line and its line feed
abbrev pub after_line : Piece → Piece
after_line p = past (line_length p.bytes + 1) p
