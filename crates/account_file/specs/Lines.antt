-- The lines of a text, as POSIX defines them: bytes that are no line feed, and a line feed at their end.
use Rattle.std.specs.Prelude.{ℕ, ◌-◌, List, [], length, take, slice_index_or}
use Rattle.std.specs.List.{slice_split}
use Rattle.text_core.specs.Bytes.{is_line_feed}

-- what stands before the first line feed, between each two, and after the last
abbrev pub pieces_of : List ℕ → List (List ℕ)
pieces_of bytes = slice_split is_line_feed bytes

-- the whole lines, without their line feeds: all pieces but the last
abbrev pub whole_lines : List ℕ → List (List ℕ)
whole_lines bytes = take (length (pieces_of bytes) - 1) (pieces_of bytes)

-- what stands after the last line feed: the last piece
abbrev pub after_lines : List ℕ → List ℕ
after_lines bytes = slice_index_or (pieces_of bytes) (length (pieces_of bytes) - 1) []
