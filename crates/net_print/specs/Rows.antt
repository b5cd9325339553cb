-- The lines of an AIGER file as they are printed (AIGER 1.9): numbers with one blank between each two, and names.
use Rattle.std.specs.Prelude.{ℕ, ◌+◌, ◌*◌, List, [], ◌∷◌, ◌++◌, length, map}
use Rattle.std.specs.List.{join_with_byte, range_with_len}
use Rattle.std.specs.Fmt.{decimal}
use Rattle.text_core.specs.Lines.{text_of_lines}
use Rattle.circuits.specs.declared.netlist.Lit.{Lit}
use Rattle.circuits.specs.declared.netlist.Gate.{Gate}
use Rattle.circuits.specs.Netlists.{Net}
use Rattle.net_file.specs.declared.named.Named.{Named}

-- numbers on a line
abbrev pub numbers_line : List ℕ → List ℕ
numbers_line numbers = join_with_byte 32 (map decimal numbers)

-- lines of numbers
abbrev pub rows_text : List (List ℕ) → List ℕ
rows_text rows = text_of_lines (map numbers_line rows)

-- the numbers of the header: M, I, L, O and A
abbrev pub header_numbers : Net → List ℕ
header_numbers net =
    (net.inputs + length net.gates) ∷ net.inputs ∷ 0 ∷ length net.outputs ∷ length net.gates ∷ []

-- the header's line, after the keyword of a form
abbrev pub header_line : List ℕ → Net → List ℕ
header_line keyword net = keyword ++ numbers_line (header_numbers net)

-- the header, as a file begins with it
abbrev pub header_text : List ℕ → Net → List ℕ
header_text keyword net = header_line keyword net ++ 10 ∷ []

-- the first numbers of a header without latches, M, I and L, each with a blank after it
abbrev pub counts_text : ℕ → ℕ → List ℕ
counts_text variables inputs = decimal variables ++ 32 ∷ decimal inputs ++ 32 ∷ decimal 0 ++ 32 ∷ []

-- an input's line has the literal of its variable
abbrev pub input_row : ℕ → List ℕ
input_row input = 2 * (input + 1) ∷ []

-- the lines of all inputs
abbrev pub input_rows : ℕ → List (List ℕ)
input_rows inputs = map input_row (range_with_len 0 inputs)

-- an output's line has its literal
abbrev pub output_row : Lit → List ℕ
output_row output = output.0 ∷ []

-- a gate's line has the literal of its variable, and its operands
abbrev pub gate_row : ℕ → Gate → List ℕ
gate_row variable gate = 2 * variable ∷ gate.a.0 ∷ gate.b.0 ∷ []

-- the lines of gates whose variables begin at `variable`
abbrev pub gate_rows : ℕ → List Gate → List (List ℕ)
gate_rows variable [] = []
gate_rows variable (gate ∷ gates) = gate_row variable gate ∷ gate_rows (variable + 1) gates

-- the line that names a port: the letter of its kind, its position and its name
abbrev pub symbol_line : ℕ → ℕ → List ℕ → List ℕ
symbol_line letter position name = letter ∷ decimal position ++ 32 ∷ name

-- the symbol of a port, as it stands in a file
abbrev pub symbol_text : ℕ → ℕ → List ℕ → List ℕ
symbol_text letter position name = symbol_line letter position name ++ 10 ∷ []

-- the lines that name the ports of a kind from `position` on
abbrev pub symbol_lines : ℕ → ℕ → List (List ℕ) → List (List ℕ)
symbol_lines letter position [] = []
symbol_lines letter position (name ∷ names) =
    symbol_line letter position name ∷ symbol_lines letter (position + 1) names

-- the lines that name all ports: `i0 a`, and `o0 y`
abbrev pub symbols : Named → List (List ℕ)
symbols named = symbol_lines 105 0 named.input_names ++ symbol_lines 111 0 named.output_names

-- the lines that name all ports, as they stand in a file
abbrev pub symbols_text : Named → List ℕ
symbols_text named =
    text_of_lines (symbol_lines 105 0 named.input_names) ++ text_of_lines (symbol_lines 111 0 named.output_names)
