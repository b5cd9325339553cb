-- Whole files as they are printed (AIGER 1.9; Berkeley Logic Interchange Format, 1992).
use Rattle.std.specs.Prelude.{ℕ, ◌+◌, List, ◌∷◌, ◌++◌, map, codes}
use Rattle.text_core.specs.Lines.{text_of_lines}
use Rattle.circuits.specs.Netlists.{Net}
use Rattle.net_file.specs.declared.named.Named.{Named}
use Rattle.net_print.specs.Rows.{numbers_line, rows_text, header_line, header_text, input_rows, output_row, gate_rows, symbols}
use Rattle.net_print.specs.Deltas.{deltas}

-- the numbers on the lines of the inputs, the outputs and the gates
abbrev pub aag_rows : Net → List (List ℕ)
aag_rows net = input_rows net.inputs ++ (map output_row net.outputs ++ gate_rows (net.inputs + 1) net.gates)

-- a file of the ASCII form: the header, the lines of numbers, and a symbol for each port
abbrev pub aag_text : Named → List ℕ
aag_text named =
    text_of_lines
    (header_line (codes "aag ") named.graph ∷ (map numbers_line (aag_rows named.graph) ++ symbols named))

-- its first lines: the header and the ports
abbrev pub aag_front_text : Net → List ℕ
aag_front_text net =
    header_text (codes "aag ") net ++ (rows_text (input_rows net.inputs) ++ rows_text (map output_row net.outputs))

-- a file of the binary form: the header, the outputs' lines, the gates by deltas, and a symbol for each port
abbrev pub aig_text : Named → List ℕ
aig_text named =
    text_of_lines (header_line (codes "aig ") named.graph ∷ map numbers_line (map output_row named.graph.outputs))
    ++ (deltas (named.graph.inputs + 1) named.graph.gates ++ text_of_lines (symbols named))
