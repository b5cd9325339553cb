-- Rows of a cover (Berkeley Logic Interchange Format, 1992): a byte for each operand, `0` for complemented, `1` for not
-- complemented, `-` for not used; and the byte of the output, `1` in the on-set and `0` in the off-set.
use Rattle.std.specs.Prelude.{ℕ, ◌-◌, ◌==◌, ◌&&◌, ◌||◌, not, Bool, List, [], ◌∷◌, length, map, reverse, take_while, Option, None, Some, slice_index_or}
use Rattle.std.specs.Prelude.{if◌then◌else◌}
use Rattle.std.specs.List.{list_all, list_any}
use Rattle.std.specs.Str.{bytes_eq}
use Rattle.text_core.specs.Piece.{Piece}
use Rattle.net_file.specs.declared.fault.NetKind.{NetKind}
use Rattle.net_file.specs.declared.fault.NetKind.TheVariants as fault
use Rattle.blif_reader.specs.JoinedLines.{word_of}
use Rattle.blif_reader.specs.Directives.{directive_of, is_row, is_names}

-- `0` or `1`
abbrev pub is_bit_byte : ℕ → Bool
is_bit_byte byte = byte == 48 || byte == 49

-- `0`, `1` or `-`
abbrev pub is_literal_byte : ℕ → Bool
is_literal_byte byte = is_bit_byte byte || byte == 45

-- how many operands a `.names` line has: all words but the first and the last
abbrev pub operand_count : List Piece → ℕ
operand_count line = length line - 2

-- how long the words of a row are: one byte for each operand, and one for the output; only this one without operands
abbrev pub row_widths : ℕ → List ℕ
row_widths operands = if operands == 0 then 1 ∷ [] else operands ∷ 1 ∷ []

-- whether a row has as many words as it should, and as long ones
abbrev pub has_widths : ℕ → List Piece → Bool
has_widths operands row = bytes_eq (map (λ word. length word.bytes) row) (row_widths operands)

-- the bytes for the operands: none where the row has the output's word alone
abbrev pub literal_bytes : List Piece → List ℕ
literal_bytes row = if length row == 1 then [] else (word_of row 0).bytes

-- the byte for the output, which is the last word
abbrev pub output_byte : List Piece → ℕ
output_byte row = slice_index_or (word_of row (length row - 1)).bytes 0 0

-- whether each byte of a row may stand at its place
abbrev pub has_good_bytes : List Piece → Bool
has_good_bytes row = list_all is_literal_byte (literal_bytes row) && is_bit_byte (output_byte row)

-- the rows that lines begin with
abbrev pub rows_of : List (List Piece) → List (List Piece)
rows_of lines = take_while (λ line. is_row (directive_of line)) lines

-- of lines from the nearest: the line before the rows that stand directly before
abbrev pub opening_of : List (List Piece) → List Piece
opening_of nearest = slice_index_or nearest (length (rows_of nearest)) []

-- the same of the lines before a row
abbrev pub rows_before : List (List Piece) → List (List Piece)
rows_before earlier = rows_of (reverse earlier)

-- the line that a row belongs to, which is a `.names` line where the row is in a cover
abbrev pub opening : List (List Piece) → List Piece
opening earlier = opening_of (reverse earlier)

-- what is wrong with a row of a cover of n operands, by whether the rows before have the other byte for the
-- output: the first of these
abbrev pub fault_in_cover : ℕ → Bool → List Piece → Option NetKind
fault_in_cover operands mixed row =
    if not (has_widths operands row) then Some fault.RowWidth
    else if not (has_good_bytes row) then Some fault.RowChar
    else if mixed then Some fault.MixedCover
    else None

-- a row has another byte for the output
abbrev pub differs_from : ℕ → List Piece → Bool
differs_from byte row = not (output_byte row == byte)

-- what is wrong with a row that stands after these lines
abbrev pub row_fault : List (List Piece) → List Piece → Option NetKind
row_fault earlier row =
    let mixed = list_any (differs_from (output_byte row)) (rows_before earlier) in
    if not (is_names (directive_of (opening earlier))) then Some fault.RowOutside
    else fault_in_cover (operand_count (opening earlier)) mixed row
