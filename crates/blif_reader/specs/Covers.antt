-- The netlist of a BLIF file (Berkeley Logic Interchange Format, 1992): each `.names` line and the rows that follow it
-- define a signal by a cover.
use Rattle.std.specs.Prelude.{ℕ, ◌+◌, ◌*◌, ◌==◌, List, [], ◌∷◌, ◌++◌, length, map, filter, Bool, if◌then◌else◌}
use Rattle.std.specs.List.{list_all, position_or_len}
use Rattle.std.specs.Str.{bytes_eq}
use Rattle.text_core.specs.Piece.{Piece}
use Rattle.circuits.specs.declared.definition.Trit.{Trit}
use Rattle.circuits.specs.declared.definition.Trit.TheVariants.{Zero, One, Dash}
use Rattle.circuits.specs.declared.netlist.Lit.{Lit}
use Rattle.circuits.specs.declared.definition.Def.{Def}
use Rattle.circuits.specs.declared.definition.Def.TheVariants.{Cover}
use Rattle.circuits.specs.Circuits.{Circuit}
use Rattle.blif_reader.specs.Directives.{directive_of, is_names}
use Rattle.blif_reader.specs.Rows.{literal_bytes, output_byte, rows_of}
use Rattle.blif_reader.specs.Names.{input_words, output_words, defined_words, operands}

-- what a byte of a row requires of its operand
abbrev pub trit_of : ℕ → Trit
trit_of byte = if byte == 48 then Zero else if byte == 49 then One else Dash

-- what a row requires of each operand
abbrev pub trits_of : List Piece → List Trit
trits_of row = map trit_of (literal_bytes row)

-- the names of the signals: of the inputs, then of what is defined, in the order of the text
abbrev pub signal_names : List (List Piece) → List (List ℕ)
signal_names lines = map (λ word. word.bytes) (input_words lines ++ defined_words lines)

-- the signal of a name: the first of these names is signal 1
abbrev pub signal_named : List (List ℕ) → Piece → ℕ
signal_named names word = 1 + position_or_len (bytes_eq word.bytes) names

-- the plain literal of the signal that has a name
abbrev pub literal_named : List (List ℕ) → Piece → Lit
literal_named names word = record { 0 = 2 * signal_named names word }

-- rows of the on-set have the byte `1` for the output
abbrev pub are_on : List (List Piece) → Bool
are_on rows = list_all (λ row. output_byte row == 49) rows

-- what a `.names` line and its rows define
abbrev pub cover_of : List (List ℕ) → List Piece → List (List Piece) → Def
cover_of names line rows = Cover (map (signal_named names) (operands line)) (map trits_of rows) (are_on rows)

-- the definitions of a text, in its order
abbrev pub covers_of : List (List ℕ) → List (List Piece) → List Def
covers_of names [] = []
covers_of names (line ∷ lines) =
    if is_names (directive_of line) then cover_of names line (rows_of lines) ∷ covers_of names lines
    else covers_of names lines

-- the circuit that a file's joined lines describe
abbrev pub blif_circuit : List (List Piece) → Circuit
blif_circuit lines =
    let names = signal_names lines in
    record {
      inputs = length (input_words lines);
      defs = covers_of names lines;
      outputs = map (literal_named names) (output_words lines);
    }

-- the `.names` lines
abbrev pub names_lines : List (List Piece) → List (List Piece)
names_lines lines = filter (λ line. is_names (directive_of line)) lines
