-- A file's text by its parts, in the order in which they are written.
use Rattle.std.proofs.Common.{◌≡◌, ℕ, ◌+◌, List, [], ◌∷◌, ◌++◌, map, length, refl, sym, ap, ◌∙◌, append_assoc}
use Rattle.std.specs.Prelude.{codes}
use Rattle.std.specs.List.{join_with_byte, range_with_len}
use Rattle.std.specs.Fmt.{decimal}
use Rattle.std.proofs.lemmas.List.{map-append, append-nil}
use Rattle.std.proofs.lemmas.Grind.{flat_map-append}
use Rattle.text_core.specs.Lines.{text_of_lines}
use Rattle.circuits.specs.Netlists.{Net}
use Rattle.net_file.specs.declared.named.Named.{Named}
use Rattle.net_print.specs.Rows.{numbers_line, rows_text, header_text, counts_text, input_rows, output_row, gate_rows, symbols, symbols_text, symbol_lines}
use Rattle.net_print.specs.Deltas.{deltas}
use Rattle.net_print.specs.Files.{aag_text, aag_rows, aag_front_text, aig_text}
use Rattle.net_print.specs.BlifLines.{blif_text, words_text, declarations, ports_line, names_text, gates_lines, outputs_lines}

pub text_of_lines-append : (xs ys : List (List ℕ)) → text_of_lines (xs ++ ys) ≡ text_of_lines xs ++ text_of_lines ys
text_of_lines-append xs ys = flat_map-append (λ line. line ++ 10 ∷ []) xs ys

pub rows_text-append : (xs ys : List (List ℕ)) → rows_text (xs ++ ys) ≡ rows_text xs ++ rows_text ys
rows_text-append xs ys =
    ap text_of_lines (map-append numbers_line xs ys) ∙ text_of_lines-append (map numbers_line xs) (map numbers_line ys)

pub words_parts : (xs ys : List (List (List ℕ))) → words_text (xs ++ ys) ≡ words_text xs ++ words_text ys
words_parts xs ys =
    ap text_of_lines (map-append (join_with_byte 32) xs ys)
    ∙ text_of_lines-append (map (join_with_byte 32) xs) (map (join_with_byte 32) ys)

-- the rows of a file of the ASCII form, by kind
rows_parts : (net : Net) → rows_text (aag_rows net) ≡ (rows_text (input_rows net.inputs) ++ rows_text (map output_row net.outputs)) ++ rows_text (gate_rows (net.inputs + 1) net.gates)
rows_parts net =
    let ins = input_rows net.inputs in
    let outs = map output_row net.outputs in
    let gates = gate_rows (net.inputs + 1) net.gates in
    rows_text-append ins (outs ++ gates)
    ∙ ap (λ rest. rows_text ins ++ rest) (rows_text-append outs gates)
    ∙ sym (append_assoc (rows_text ins) (rows_text outs) (rows_text gates))

pub aag_parts : (named : Named) → aag_text named ≡ aag_front_text named.graph ++ (rows_text (gate_rows (named.graph.inputs + 1) named.graph.gates) ++ symbols_text named)
aag_parts named =
    let net = named.graph in
    let header = header_text (codes "aag ") net in
    let ports = rows_text (input_rows net.inputs) ++ rows_text (map output_row net.outputs) in
    let gates = rows_text (gate_rows (net.inputs + 1) net.gates) in
    let names = text_of_lines-append (symbol_lines 105 0 named.input_names) (symbol_lines 111 0 named.output_names) in
    ap (λ rest. header ++ rest) (text_of_lines-append (map numbers_line (aag_rows net)) (symbols named))
    ∙ ap (λ rest. header ++ (rest ++ text_of_lines (symbols named))) (rows_parts net)
    ∙ ap (λ rest. header ++ ((ports ++ gates) ++ rest)) names
    ∙ ap (λ rest. header ++ rest) (append_assoc ports gates (symbols_text named))
    ∙ sym (append_assoc header ports (gates ++ symbols_text named))

pub aig_parts : (named : Named) → aig_text named ≡ header_text (codes "aig ") named.graph ++ (rows_text (map output_row named.graph.outputs) ++ (deltas (named.graph.inputs + 1) named.graph.gates ++ symbols_text named))
aig_parts named =
    let net = named.graph in
    let header = header_text (codes "aig ") net in
    let outs = rows_text (map output_row net.outputs) in
    let gates = deltas (net.inputs + 1) net.gates in
    let names = text_of_lines-append (symbol_lines 105 0 named.input_names) (symbol_lines 111 0 named.output_names) in
    append_assoc header outs (gates ++ text_of_lines (symbols named))
    ∙ ap (λ rest. header ++ (outs ++ (gates ++ rest))) names

pub blif_parts : (net : Net) → blif_text net ≡ words_text (declarations net) ++ (words_text (gates_lines net.inputs 0 net.gates) ++ (words_text (outputs_lines net.inputs 0 net.outputs) ++ codes ".end\n"))
blif_parts net =
    let gates = gates_lines net.inputs 0 net.gates in
    let outs = outputs_lines net.inputs 0 net.outputs in
    let end = (codes ".end" ∷ []) ∷ [] in
    words_parts (declarations net) (gates ++ (outs ++ end))
    ∙ ap (λ rest. words_text (declarations net) ++ rest) (words_parts gates (outs ++ end))
    ∙ ap (λ rest. words_text (declarations net) ++ (words_text gates ++ rest)) (words_parts outs end)

pub declared_parts : (net : Net) → words_text (declarations net) ≡ codes ".model npnp\n" ++ (words_text (ports_line (codes ".inputs") 105 net.inputs ∷ []) ++ (words_text (ports_line (codes ".outputs") 111 (length net.outputs) ∷ []) ++ codes ".names z\n"))
declared_parts net =
    let ins = ports_line (codes ".inputs") 105 net.inputs in
    let outs = ports_line (codes ".outputs") 111 (length net.outputs) in
    let names = (codes ".names" ∷ codes "z" ∷ []) ∷ [] in
    ap (λ rest. codes ".model npnp\n" ++ rest) (words_parts (ins ∷ []) (outs ∷ names) ∙ ap (λ rest. words_text (ins ∷ []) ++ rest) (words_parts (outs ∷ []) names))

spaced_names : (first : List ℕ) (letter : ℕ) (ports : List ℕ) → join_with_byte 32 (first ∷ map (λ port. letter ∷ decimal port) ports) ≡ first ++ names_text letter ports
spaced_names first letter [] = sym (append-nil first)
spaced_names first letter (port ∷ ports) = ap (λ rest. first ++ 32 ∷ rest) (spaced_names (letter ∷ decimal port) letter ports)

pub ports_parts : (directive : List ℕ) (letter count : ℕ) → words_text (ports_line directive letter count ∷ []) ≡ directive ++ (names_text letter (range_with_len 0 count) ++ codes "\n")
ports_parts directive letter count =
    append-nil (join_with_byte 32 (ports_line directive letter count) ++ 10 ∷ [])
    ∙ ap (λ line. line ++ 10 ∷ []) (spaced_names directive letter (range_with_len 0 count))
    ∙ append_assoc directive (names_text letter (range_with_len 0 count)) (codes "\n")

-- the header's line, in the pieces in which it is written
pub header_parts : (keyword : List ℕ) (net : Net) → header_text keyword net ≡ keyword ++ (counts_text (net.inputs + length net.gates) net.inputs ++ ((decimal (length net.outputs) ++ 32 ∷ []) ++ (decimal (length net.gates) ++ 10 ∷ [])))
header_parts keyword net = simp append_assoc refl
