-- How long printed files are.
use Rattle.std.proofs.Common.{◌≡◌, ℕ, zero, suc, ◌+◌, ◌-◌, ◌*◌, ◌^◌, ◌<◌, ◌≤◌, ◌==◌, Bool, true, false, List, [], ◌∷◌, ◌++◌, length, map, All, nat_lt, if◌then◌else◌, ap, arith, length-append}
use Rattle.std.specs.Prelude.{codes, max, min}
use Rattle.std.specs.Fmt.{decimal}
use Rattle.std.specs.List.{join_with_byte, range_with_len}
use Rattle.std.proofs.lemmas.Fmt.{length-decimal-le}
use Rattle.std.proofs.lemmas.Grind.{flat_map-append}
use Rattle.std.proofs.lemmas.List.Elements.{All-head, All-tail}
use Rattle.text_core.specs.Lines.{text_of_lines}
use Rattle.circuits.specs.Literals.{signal_of}
use Rattle.circuits.specs.Netlists.{Net}
use Rattle.circuits.specs.declared.netlist.Lit.{Lit}
use Rattle.circuits.specs.declared.netlist.Gate.{Gate}
use Rattle.net_core.specs.Limits.{most_bytes}
use Rattle.net_file.specs.declared.named.Named.{Named}
use Rattle.net_print.specs.BlifLines.{signal_name, gate_name, output_name, input_name, ports_line, words_text, blif_text, row_byte}
use Rattle.net_print.specs.Deltas.{delta_groups, deltas}
use Rattle.net_print.specs.Files.{aig_text}
use Rattle.net_print.specs.Rows.{numbers_line, header_numbers, header_line, output_row, symbol_lines, symbols}
use Rattle.print_laws.specs.Printable.{HasFewGates, IsPrintable, IsShortName, IsWithinLimits}
use Rattle.print_laws.proofs.Deltas.{few_groups}
use Rattle.print_laws.proofs.PrintedCovers.{Printed, OfGate, OfOutput, names_words, row_words, covers_lines, numbered, printed_covers, length-numbered, ReadsBelow, covers_read, words_are}

-- a number of 32 bits has ten digits at most
digits_few : (n : ℕ) → n < 2 ^ 32 → length (decimal n) ≤ 10
digits_few n few = length-decimal-le 10 n (omega arith) (omega (arith, few)) (omega (arith, few))

signal_short : (n s : ℕ) → s < 2 ^ 32 → length (signal_name n s) ≤ 11
signal_short n s few = by_tests (s == 0) (nat_lt n s)
  where
    by_tests : (zero_is many : Bool) → length (if zero_is then codes "z" else if many then gate_name (s - 1 - n) else input_name (s - 1)) ≤ 11
    by_tests true many = omega arith
    by_tests false true = omega (arith, digits_few (s - 1 - n) (omega (arith, few)))
    by_tests false false = omega (arith, digits_few (s - 1) (omega (arith, few)))

-- a line of words, and the lines after it

line_size : (line : List (List ℕ)) (lines : List (List (List ℕ))) → length (words_text (line ∷ lines)) ≡ length (join_with_byte 32 line) + 1 + length (words_text lines)
line_size line lines = omega (arith, length-append (join_with_byte 32 line ++ 10 ∷ []) (words_text lines), length-append (join_with_byte 32 line) (10 ∷ []))

join_size : (word next : List ℕ) (words : List (List ℕ)) → length (join_with_byte 32 (word ∷ next ∷ words)) ≡ length word + 1 + length (join_with_byte 32 (next ∷ words))
join_size word next words = omega (arith, length-append word (32 ∷ join_with_byte 32 (next ∷ words)))

-- the lines of BLIF

cover_size : (n bound : ℕ) (cover : Printed) (rest : List (List (List ℕ))) → bound ≤ 2 ^ 32 → ReadsBelow bound cover → length (words_text (names_words n cover ∷ row_words cover ∷ rest)) ≤ 48 + length (words_text rest)
cover_size n bound (OfGate t gate) rest small reads =
    let left = signal_name n (signal_of gate.a) in
    let right = signal_name n (signal_of gate.b) in
    let name = gate_name t in
    let row = row_byte gate.a ∷ row_byte gate.b ∷ [] in
    omega (
      arith,
      line_size (codes ".names" ∷ left ∷ right ∷ name ∷ []) ((row ∷ codes "1" ∷ []) ∷ rest),
      line_size (row ∷ codes "1" ∷ []) rest,
      join_size (codes ".names") left (right ∷ name ∷ []),
      join_size left right (name ∷ []),
      join_size right name [],
      join_size row (codes "1") [],
      signal_short n (signal_of gate.a) (omega (arith, reads.1, small)),
      signal_short n (signal_of gate.b) (omega (arith, reads.2, small)),
      digits_few t reads.0,
    )
cover_size n bound (OfOutput k output) rest small reads =
    let left = signal_name n (signal_of output) in
    let name = output_name k in
    let row = row_byte output ∷ [] in
    omega (
      arith,
      line_size (codes ".names" ∷ left ∷ name ∷ []) ((row ∷ codes "1" ∷ []) ∷ rest),
      line_size (row ∷ codes "1" ∷ []) rest,
      join_size (codes ".names") left (name ∷ []),
      join_size left name [],
      join_size row (codes "1") [],
      signal_short n (signal_of output) (omega (arith, reads.1, small)),
      digits_few k reads.0,
    )

covers_size : (n bound : ℕ) (covers : List Printed) → bound ≤ 2 ^ 32 → All (ReadsBelow bound) covers → length (words_text (covers_lines n covers)) ≤ 48 * length covers + 5
covers_size n bound [] small reads = omega (arith, line_size (codes ".end" ∷ []) [])
covers_size n bound (cover ∷ covers) small reads =
    omega (
      arith,
      cover_size n bound cover (covers_lines n covers) small (All-head (ReadsBelow bound) cover covers reads),
      covers_size n bound covers small (All-tail (ReadsBelow bound) cover covers reads),
    )

ports_size : (word : List ℕ) (letter a n : ℕ) → a + n < 2 ^ 32 → length (join_with_byte 32 (word ∷ map (λ port. letter ∷ decimal port) (range_with_len a n))) ≤ length word + 12 * n
ports_size word letter a zero few = omega arith
ports_size word letter a (suc n) few =
    omega (
      arith,
      join_size word (letter ∷ decimal a) (map (λ port. letter ∷ decimal port) (range_with_len (a + 1) n)),
      digits_few a (omega (arith, few)),
      ports_size (letter ∷ decimal a) letter (a + 1) n (omega (arith, few)),
    )

pub blif_short : (net : Net) → IsWithinLimits net → HasFewGates net → length (blif_text net) ≤ most_bytes
blif_short net within few =
    let n = net.inputs in
    let m = length net.outputs in
    let covers = printed_covers net in
    let after = covers_lines n covers in
    let inputs = ports_line (codes ".inputs") 105 n in
    let outputs = ports_line (codes ".outputs") 111 m in
    let constant : List (List ℕ) = codes ".names" ∷ codes "z" ∷ [] in
    let whole : blif_text net ≡ words_text ((codes ".model" ∷ codes "npnp" ∷ []) ∷ inputs ∷ outputs ∷ constant ∷ after) = ap words_text (words_are net) in
    omega (
      arith,
      within.inputs,
      within.outputs,
      few,
      line_size (codes ".model" ∷ codes "npnp" ∷ []) (inputs ∷ outputs ∷ constant ∷ after),
      line_size inputs (outputs ∷ constant ∷ after),
      line_size outputs (constant ∷ after),
      line_size constant after,
      join_size (codes ".model") (codes "npnp") [],
      join_size (codes ".names") (codes "z") [],
      ports_size (codes ".inputs") 105 0 n (omega (arith, within.inputs)),
      ports_size (codes ".outputs") 111 0 m (omega (arith, within.outputs)),
      covers_size n (1 + n + length net.gates) covers (omega (arith, within.inputs, within.gates)) (covers_read net within),
      length-append (numbered OfGate 0 net.gates) (numbered OfOutput 0 net.outputs),
      length-numbered OfGate 0 net.gates,
      length-numbered OfOutput 0 net.outputs,
      ap length whole,
    )

-- the binary form of AIGER

text_size : (line : List ℕ) (lines : List (List ℕ)) → length (text_of_lines (line ∷ lines)) ≡ length line + 1 + length (text_of_lines lines)
text_size line lines = omega (arith, length-append (line ++ 10 ∷ []) (text_of_lines lines), length-append line (10 ∷ []))

deltas_size : (variable : ℕ) (gates : List Gate) → length (deltas variable gates) ≤ 10 * length gates
deltas_size variable [] = omega arith
deltas_size variable (gate ∷ gates) =
    let first = delta_groups (2 * variable - max gate.a.0 gate.b.0) in
    let second = delta_groups (max gate.a.0 gate.b.0 - min gate.a.0 gate.b.0) in
    omega (
      arith,
      length-append (first ++ second) (deltas (variable + 1) gates),
      length-append first second,
      few_groups 4 (2 * variable - max gate.a.0 gate.b.0),
      few_groups 4 (max gate.a.0 gate.b.0 - min gate.a.0 gate.b.0),
      deltas_size (variable + 1) gates,
    )

abbrev SmallLiteral : Lit → Type 0
SmallLiteral output = output.0 < 2 ^ 32

rows_size : (outputs : List Lit) → All SmallLiteral outputs → length (text_of_lines (map numbers_line (map output_row outputs))) ≤ 11 * length outputs
rows_size [] small = omega arith
rows_size (output ∷ outputs) small =
    omega (
      arith,
      text_size (decimal output.0) (map numbers_line (map output_row outputs)),
      digits_few output.0 (All-head SmallLiteral output outputs small),
      rows_size outputs (All-tail SmallLiteral output outputs small),
    )

header_size : (net : Net) → IsWithinLimits net → length (header_line (codes "aig ") net) ≤ 100
header_size net within =
    let v = decimal (net.inputs + length net.gates) in
    let i = decimal net.inputs in
    let l = decimal 0 in
    let o = decimal (length net.outputs) in
    let a = decimal (length net.gates) in
    omega (
      arith,
      length-append (codes "aig ") (numbers_line (header_numbers net)),
      join_size v i (l ∷ o ∷ a ∷ []),
      join_size i l (o ∷ a ∷ []),
      join_size l o (a ∷ []),
      join_size o a [],
      digits_few (net.inputs + length net.gates) (omega (arith, within.inputs, within.gates)),
      digits_few net.inputs (omega (arith, within.inputs)),
      digits_few 0 (omega arith),
      digits_few (length net.outputs) (omega (arith, within.outputs)),
      digits_few (length net.gates) (omega (arith, within.gates)),
    )

symbols_size : (letter position : ℕ) (names : List (List ℕ)) → position + length names < 2 ^ 32 → All IsShortName names → length (text_of_lines (symbol_lines letter position names)) ≤ 3013 * length names
symbols_size letter position [] few short = omega arith
symbols_size letter position (name ∷ names) few short =
    omega (
      arith,
      text_size (letter ∷ decimal position ++ 32 ∷ name) (symbol_lines letter (position + 1) names),
      length-append (decimal position) (32 ∷ name),
      digits_few position (omega (arith, few)),
      All-head IsShortName name names short,
      symbols_size letter (position + 1) names (omega (arith, few)) (All-tail IsShortName name names short),
    )

literal_small : (net : Net) → IsWithinLimits net → All SmallLiteral net.outputs
literal_small net within k d h = omega (arith, within.ordered.outputs k d h, within.inputs, within.gates)

pub aig_short : (named : Named) → IsPrintable named → All IsShortName named.input_names → All IsShortName named.output_names → length (aig_text named) ≤ most_bytes
aig_short named good inputs outputs =
    let net = named.graph in
    let within = good.within in
    let rows = map numbers_line (map output_row net.outputs) in
    let front = text_of_lines (header_line (codes "aig ") net ∷ rows) in
    let gates = deltas (net.inputs + 1) net.gates in
    let back = text_of_lines (symbols named) in
    let ins = symbol_lines 105 0 named.input_names in
    let outs = symbol_lines 111 0 named.output_names in
    omega (
      arith,
      within.inputs,
      within.outputs,
      within.gates,
      good.inputs_named,
      good.outputs_named,
      length-append front (gates ++ back),
      length-append gates back,
      text_size (header_line (codes "aig ") net) rows,
      header_size net within,
      rows_size net.outputs (literal_small net within),
      deltas_size (net.inputs + 1) net.gates,
      ap length (flat_map-append (λ line. line ++ 10 ∷ []) ins outs),
      length-append (text_of_lines ins) (text_of_lines outs),
      symbols_size 105 0 named.input_names (omega (arith, good.inputs_named, within.inputs)) inputs,
      symbols_size 111 0 named.output_names (omega (arith, good.outputs_named, within.outputs)) outputs,
    )
