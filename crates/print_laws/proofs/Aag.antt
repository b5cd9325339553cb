-- What is printed in the ASCII form of AIGER is a file of the same netlist.
use Rattle.std.proofs.Common.{◌≡◌, ◌≢◌, ℕ, ◌+◌, ◌*◌, ◌/◌, ◌^◌, ◌<◌, ◌≤◌, Bool, true, false, not, List, [], ◌∷◌, ◌++◌, length, map, get_or, take, drop, replicate, All, AllPairs, Some, None, nat_lt, refl, sym, ap, subst, ◌∙◌, arith, append_assoc, length-append}
use Rattle.std.specs.Prelude.{codes}
use Rattle.std.specs.List.{range_with_len, Contains, take_while}
use Rattle.std.proofs.lemmas.Bool.{le-ltb}
use Rattle.std.proofs.lemmas.List.{length-map, append-nil, get_or_append_left, get_or_default, get_or-map}
use Rattle.std.proofs.lemmas.List.Elements.{All-nil, All-cons, All-append, All-map, All-drop}
use Rattle.std.proofs.lemmas.List.FromFn.{length-map-range_with_len}
use Rattle.std.proofs.lemmas.Slice.Zip.{AllZip-long}
use Rattle.std.proofs.lemmas.Grind.{flat_map-append}
use Rattle.std.proofs.Math.Nat.{mul-div-le}
use Rattle.std.proofs.Math.Seq.{drop-append_seam}
use Rattle.text_core.specs.Bytes.{is_line_feed}
use Rattle.text_core.specs.Lines.{lines, text_of_lines, IsLine}
use Rattle.text_core.proofs.LineLemmas.{lines-text_of_lines}
use Rattle.circuits.specs.Literals.{signal_of}
use Rattle.circuits.specs.Netlists.{Net, IsOrdered}
use Rattle.circuits.specs.Circuits.{Circuit}
use Rattle.circuits.specs.Functions.{as_circuit, gate_def}
use Rattle.circuits.specs.declared.definition.Def.{Def}
use Rattle.circuits.specs.declared.netlist.Lit.{Lit}
use Rattle.circuits.specs.declared.port.PortKind.TheVariants.{Input as InputPort, Output as OutputPort}
use Rattle.circuits.proofs.AsCircuit.{as_circuit-acyclic}
use Rattle.net_core.specs.Limits.{most_gates, most_ports, most_variables}
use Rattle.net_file.specs.declared.named.Named.{Named}
use Rattle.aiger_reader.specs.Words.{numbers_on, AreSmall}
use Rattle.aiger_reader.specs.Headers.{AigerHeader, header_numbers, header_fault, line_after, Begins, keyword}
use Rattle.aiger_reader.specs.Bodies.{Role, Input, Output, Gate as GateLine, roles_of, role_at, defined, body_lines, line_offset, IsBody, IsKnown, IsKnownRow, reads, text_circuit, literal_of, and_on, first_of}
use Rattle.aiger_reader.specs.Symbols.{AreNames, ArePortNames, GiveNames, is_comment, port_at}
use Rattle.aiger_reader.specs.Aiger.{IsAiger}
use Rattle.net_print.specs.Rows.{numbers_line, header_numbers as printed_numbers, header_line, input_row, input_rows, output_row, gate_rows, symbols, symbol_lines}
use Rattle.net_print.specs.Files.{aag_rows, aag_text}
use Rattle.print_laws.specs.Printable.{IsWithinLimits, IsPrintable}
use Rattle.print_laws.proofs.NumberLines.{AreWords, IsLine-numbers_line, numbers_on-numbers_line}
use Rattle.print_laws.proofs.Fitting.{IsFit, AreFit, ReadsUpTo, fit_at, IsSection, section_append, inputs_section, outputs_section, gates_section, range_append, range_distinct, range_contains}
use Rattle.print_laws.proofs.Circuits.{outputs_same, gates_same, rows_after, rows_before}
use Rattle.print_laws.proofs.SymbolLines.{IsSymbol, IsBefore, symbols_good, all_taken, given, entries_from, all_entries, inputs_named, outputs_named}

-- the greatest variable, and the header
abbrev pub greatest_of : Net → ℕ
greatest_of net = net.inputs + length net.gates

abbrev pub header_of_net : Bool → Net → AigerHeader
header_of_net binary net = record {
  binary = binary;
  variables = greatest_of net;
  inputs = net.inputs;
  latches = 0;
  outputs = length net.outputs;
  gates = length net.gates;
  properties = [];
}

abbrev aag_header : Net → AigerHeader
aag_header net = header_of_net false net

-- the numbers of the header are small, and none is above its limit
pub numbers_small : (binary : Bool) (net : Net) → IsWithinLimits net → AreSmall (header_numbers (header_of_net binary net))
numbers_small binary net within =
    let P : ℕ → Type 0 = λ n. n < 2 ^ 32 in
    let a = length net.gates in
    let o = length net.outputs in
    All-cons P (greatest_of net) (net.inputs ∷ 0 ∷ o ∷ a ∷ []) (omega (arith, within.inputs, within.gates))
    (All-cons P net.inputs (0 ∷ o ∷ a ∷ []) (omega (arith, within.inputs))
    (All-cons P 0 (o ∷ a ∷ []) (omega arith)
    (All-cons P o (a ∷ []) (omega (arith, within.outputs))
    (All-cons P a [] (omega (arith, within.gates)) (All-nil P)))))

pub accepted : (binary : Bool) (net : Net) → IsWithinLimits net → header_fault (header_of_net binary net) ≡ None
accepted binary net within =
    let inputs : nat_lt most_ports net.inputs ≡ false = le-ltb most_ports net.inputs within.inputs in
    let outputs : nat_lt most_ports (length net.outputs) ≡ false = le-ltb most_ports (length net.outputs) within.outputs in
    let gates : nat_lt most_gates (length net.gates) ≡ false = le-ltb most_gates (length net.gates) within.gates in
    let variables : nat_lt most_variables (greatest_of net) ≡ false = le-ltb most_variables (greatest_of net) (omega (arith, within.inputs, within.gates)) in
    rw (inputs, outputs, gates, variables) refl

-- numbers of 32 bits are of 64
wider : (ns : List ℕ) → AreSmall ns → AreWords ns
wider ns small k d h = omega (arith, small k d h)

pub header_written : (binary : Bool) (net : Net) → IsWithinLimits net → numbers_on (numbers_line (printed_numbers net)) ≡ map Some (header_numbers (header_of_net binary net))
header_written binary net within =
    numbers_on-numbers_line (printed_numbers net) (wider (printed_numbers net) (numbers_small binary net within))

-- the operands of the gates are signals
pub gates_read : (net : Net) → IsOrdered net → All (ReadsUpTo (greatest_of net)) net.gates
gates_read net ordered k d h = (omega (arith, ordered.first_operands k d h, h), omega (arith, ordered.second_operands k d h, h))

pub outputs_read : (net : Net) → IsOrdered net → All (λ output. signal_of output < 1 + greatest_of net) net.outputs
outputs_read net ordered k d h = omega (arith, ordered.outputs k d h)

abbrev ins : Net → List (List ℕ)
ins net = input_rows net.inputs

abbrev pub outs : Net → List (List ℕ)
outs net = map output_row net.outputs

abbrev gates : Net → List (List ℕ)
gates net = gate_rows (net.inputs + 1) net.gates

abbrev input_roles : Net → List Role
input_roles net = replicate net.inputs Input

abbrev output_roles : Net → List Role
output_roles net = replicate (length net.outputs) Output

abbrev gate_roles : Net → List Role
gate_roles net = replicate (length net.gates) GateLine

roles_are : (net : Net) → roles_of (aag_header net) ≡ input_roles net ++ (output_roles net ++ gate_roles net)
roles_are net = append_assoc (input_roles net) (output_roles net) (gate_roles net)

-- the rows fit, and define the variables from 1 on
aag_section : (net : Net) → IsOrdered net → IsSection (greatest_of net) (roles_of (aag_header net)) (aag_rows net) (range_with_len 1 (greatest_of net))
aag_section net ordered =
    let m = greatest_of net in
    let first = range_with_len 1 net.inputs in
    let second = range_with_len (net.inputs + 1) (length net.gates) in
    let inputs : IsSection m (input_roles net) (ins net) first = inputs_section m 0 net.inputs (omega arith) in
    let outputs : IsSection m (output_roles net) (outs net) [] = outputs_section m net.outputs (outputs_read net ordered) in
    let gates_are = gates_section m (net.inputs + 1) net.gates (omega arith) (omega arith) (gates_read net ordered) in
    let all = section_append m (input_roles net) (output_roles net ++ gate_roles net) (ins net) (outs net ++ gates net) first second inputs (section_append m (output_roles net) (gate_roles net) (outs net) (gates net) [] second outputs gates_are) in
    subst (λ (roles : List Role). IsSection m roles (aag_rows net) (range_with_len 1 m)) (sym (roles_are net))
    (subst (IsSection m (input_roles net ++ (output_roles net ++ gate_roles net)) (aag_rows net)) (range_append 1 (net.inputs + 1) net.inputs (length net.gates) m (omega arith) refl) all)

-- the header's line
abbrev first_line : Net → List ℕ
first_line net = numbers_line (printed_numbers net)

header_on_line : (net : Net) → IsWithinLimits net → IsLine (first_line net)
header_on_line net within = IsLine-numbers_line (printed_numbers net) (wider (printed_numbers net) (numbers_small false net within))

four_on_line : (second : ℕ) → is_line_feed second ≡ false → IsLine (97 ∷ second ∷ 103 ∷ 32 ∷ [])
four_on_line second h =
    let P : ℕ → Type 0 = λ byte. is_line_feed byte ≡ false in
    All-cons P 97 (second ∷ 103 ∷ 32 ∷ []) refl (All-cons P second (103 ∷ 32 ∷ []) h (All-cons P 103 (32 ∷ []) refl (All-cons P 32 [] refl (All-nil P))))

keyword_on_line : (binary : Bool) → IsLine (keyword binary)
keyword_on_line false = four_on_line 97 refl
keyword_on_line true = four_on_line 105 refl

-- A file of a form: the header, lines of rows that fit it, and what stands after them.
pub record IsFile (binary : Bool) (net : Net) (rows : List (List ℕ)) (back bytes : List ℕ) : Type 0 where
  pub fits : AreFit (greatest_of net) (roles_of (header_of_net binary net)) rows
  pub distinct : AllPairs (λ one other. one ≢ other) (defined (roles_of (header_of_net binary net)) rows)
  pub begins : take 4 bytes ≡ keyword binary
  pub whole : bytes ≡ text_of_lines (header_line (keyword binary) net ∷ map numbers_line rows) ++ back
  pub after_keyword : drop 4 bytes ≡ text_of_lines (numbers_line (printed_numbers net) ∷ map numbers_line rows) ++ back

-- It is read as this header, these rows and what stands after them.
module _ (binary : Bool) (net : Net) (within : IsWithinLimits net) (rows : List (List ℕ)) (back bytes : List ℕ) (file : IsFile binary net rows back bytes) where
  rows_wide : (k : ℕ) → k < length rows → AreWords (get_or rows k [])
  rows_wide k h i d there =
      let fit = fit_at (greatest_of net) (roles_of (header_of_net binary net)) rows k file.fits h in
      omega (arith, fit.in_range i d there, within.inputs, within.gates)

  rows_on_lines : All IsLine (map numbers_line rows)
  rows_on_lines = All-map IsLine numbers_line rows (λ k d h. subst IsLine (ap numbers_line (get_or_default rows k [] d h)) (IsLine-numbers_line (get_or rows k []) (rows_wide k h)))

  lines_are : lines bytes ≡ (header_line (keyword binary) net ∷ map numbers_line rows) ++ lines back
  lines_are =
      let head = All-append (λ byte. is_line_feed byte ≡ false) (keyword binary) (first_line net) (keyword_on_line binary) (header_on_line net within) in
      ap lines file.whole
      ∙ lines-text_of_lines (header_line (keyword binary) net ∷ map numbers_line rows) back (All-cons IsLine (header_line (keyword binary) net) (map numbers_line rows) head rows_on_lines)

  pub file_begins : Begins bytes (header_of_net binary net)
  file_begins =
      let line : line_after bytes ≡ first_line net =
      ap (λ (bs : List ℕ). get_or (lines bs) 0 []) file.after_keyword
      ∙ ap (λ (ls : List (List ℕ)). get_or ls 0 []) (lines-text_of_lines (first_line net ∷ map numbers_line rows) back (All-cons IsLine (first_line net) (map numbers_line rows) (header_on_line net within) rows_on_lines)) in
      record {
        header = record {
          begins = file.begins;
          numbers = record {
            written = ap numbers_on line ∙ header_written binary net within;
            few = omega arith;
            small = numbers_small binary net within;
          };
          counted = omega arith;
          no_gaps = λ _. omega arith;
        };
        accepted = accepted binary net within;
      }

  pub file_body : IsBody bytes (header_of_net binary net) rows
  file_body =
      let roles = roles_of (header_of_net binary net) in
      let whole = AllZip-long (IsFit (greatest_of net)) roles rows file.fits in
      let lined = map numbers_line rows in
      let after = lines back in
      let body : body_lines bytes ≡ lined ++ after = ap (drop 1) lines_are in
      let row_line : (k : ℕ) → k < length rows → get_or (body_lines bytes) k [] ≡ numbers_line (get_or rows k []) =
      λ k h. ap (λ (ls : List (List ℕ)). get_or ls k []) body
      ∙ get_or_append_left lined after [] k (omega (arith, h, length-map rows numbers_line))
      ∙ get_or-map numbers_line rows k [] [] h in
      record {
        good = record {
          announced = omega (arith, whole);
          there = omega (arith, ap length body, length-append lined after, length-map rows numbers_line);
          written = λ k h. record {
            numbers = ap numbers_on (row_line k h) ∙ numbers_on-numbers_line (get_or rows k []) (rows_wide k h);
            width = (fit_at (greatest_of net) roles rows k file.fits h).width;
          };
          good = λ k h.
              let row = fit_at (greatest_of net) roles rows k file.fits h in
              record { in_range = row.in_range; plain = row.plain };
          distinct = file.distinct;
        };
        whole = whole;
      }

  pub file_rest : back ≡ drop (line_offset bytes (1 + length rows)) bytes
  file_rest =
      let front = header_line (keyword binary) net ∷ map numbers_line rows in
      let count : length front ≡ 1 + length rows = omega (arith, length-map rows numbers_line) in
      let first : take (1 + length rows) (lines bytes) ≡ front =
      ap (take (1 + length rows)) lines_are ∙ rows_before (1 + length rows) front (lines back) count in
      sym (ap (λ (ls : List (List ℕ)). drop (length (text_of_lines ls)) bytes) first
      ∙ ap (drop (length (text_of_lines front))) file.whole
      ∙ drop-append_seam (text_of_lines front) back)

-- a file of the ASCII form ends with the symbols
aag_file : (named : Named) → IsPrintable named → IsFile false named.graph (aag_rows named.graph) (text_of_lines (symbols named)) (aag_text named)
aag_file named good =
    let net = named.graph in
    let rows = map numbers_line (aag_rows net) in
    record {
      fits = (aag_section net good.within.ordered).fits;
      distinct = subst (λ (vs : List ℕ). AllPairs (λ one other. one ≢ other) vs) (sym (aag_section net good.within.ordered).defines) (range_distinct 1 (greatest_of net));
      begins = refl;
      whole = flat_map-append (λ line. line ++ 10 ∷ []) (header_line (codes "aag ") net ∷ rows) (symbols named);
      after_keyword = flat_map-append (λ line. line ++ 10 ∷ []) (first_line net ∷ rows) (symbols named);
    }

pub names_on_lines : (named : Named) → IsPrintable named → All IsSymbol (symbols named)
names_on_lines named good =
    let few = good.within in
    All-append IsSymbol (symbol_lines 105 0 named.input_names) (symbol_lines 111 0 named.output_names)
    (symbols_good InputPort 0 named.input_names (omega (arith, good.inputs_named, few.inputs)) good.input_names)
    (symbols_good OutputPort 0 named.output_names (omega (arith, good.outputs_named, few.outputs)) good.output_names)

pub symbols_on_lines : (named : Named) → IsPrintable named → All IsLine (symbols named)
symbols_on_lines named good = λ k d h. (names_on_lines named good k d h).0

pub lines_of : (parts : List (List ℕ)) → All IsLine parts → lines (text_of_lines parts) ≡ parts
lines_of parts all =
    ap lines (sym (append-nil (text_of_lines parts))) ∙ lines-text_of_lines parts [] all ∙ append-nil parts

-- a literal in range is known
known : (net : Net) (literal : ℕ) → IsOrdered net → literal ≤ 2 * greatest_of net + 1 → IsKnown (defined (roles_of (aag_header net)) (aag_rows net)) literal
known net literal ordered low some =
    let m = greatest_of net in
    subst (λ (vs : List ℕ). Contains vs (literal / 2)) (sym (aag_section net ordered).defines)
    (range_contains 1 m (literal / 2) (omega (arith, some)) (omega (arith, low, mul-div-le literal 2)))

read_in_range : (role : Role) (row : List ℕ) (m : ℕ) → All (λ literal. literal ≤ m) row → All (λ literal. literal ≤ m) (reads role row)
read_in_range Input row m all = All-nil (λ literal. literal ≤ m)
read_in_range Output row m all = all
read_in_range GateLine row m all = All-drop (λ literal. literal ≤ m) 1 row all

aag_known : (net : Net) → IsWithinLimits net → (k : ℕ) → k < length (aag_rows net) → IsKnownRow (aag_header net) (aag_rows net) k
aag_known net within k h i d there =
    let role = role_at (aag_header net) k in
    let fit = fit_at (greatest_of net) (roles_of (aag_header net)) (aag_rows net) k (aag_section net within.ordered).fits h in
    known net (get_or (reads role (get_or (aag_rows net) k [])) i d) within.ordered (read_in_range role (get_or (aag_rows net) k []) (2 * greatest_of net + 1) fit.in_range i d there)

abbrev pub circuit_of : ℕ → List Def → List Lit → Circuit
circuit_of n defs outputs = record { inputs = n; defs = defs; outputs = outputs }

aag_circuit : (net : Net) → IsOrdered net → as_circuit net ≡ text_circuit (aag_header net) (aag_rows net)
aag_circuit net ordered =
    let m = greatest_of net in
    let few : length (ins net) ≡ net.inputs = length-map-range_with_len input_row 0 net.inputs in
    let also : length (outs net) ≡ length net.outputs = length-map net.outputs output_row in
    let gate_part : drop (net.inputs + length net.outputs) (aag_rows net) ≡ gates net =
    ap (drop (net.inputs + length net.outputs)) (sym (append_assoc (ins net) (outs net) (gates net)))
    ∙ rows_after (net.inputs + length net.outputs) (ins net ++ outs net) (gates net) (omega (arith, few, also, length-append (ins net) (outs net))) in
    let out_part : take (length net.outputs) (drop net.inputs (aag_rows net)) ≡ outs net =
    ap (take (length net.outputs)) (rows_after net.inputs (ins net) (outs net ++ gates net) few)
    ∙ rows_before (length net.outputs) (outs net) (gates net) also in
    let variables = (aag_section net ordered).defines in
    let defs : map (and_on (defined (roles_of (aag_header net)) (aag_rows net))) (drop (net.inputs + length net.outputs) (aag_rows net)) ≡ map gate_def net.gates =
    ap (λ (vs : List ℕ). map (and_on vs) (drop (net.inputs + length net.outputs) (aag_rows net))) variables
    ∙ ap (map (and_on (range_with_len 1 m))) gate_part
    ∙ gates_same m (net.inputs + 1) net.gates (gates_read net ordered) in
    let outputs : map (λ row. literal_of (defined (roles_of (aag_header net)) (aag_rows net)) (first_of row)) (take (length net.outputs) (drop net.inputs (aag_rows net))) ≡ net.outputs =
    ap (λ (vs : List ℕ). map (λ row. literal_of vs (first_of row)) (take (length net.outputs) (drop net.inputs (aag_rows net)))) variables
    ∙ ap (map (λ row. literal_of (range_with_len 1 m) (first_of row))) out_part
    ∙ outputs_same m net.outputs (outputs_read net ordered) in
    sym (ap (λ (ds : List Def). circuit_of net.inputs ds (map (λ row. literal_of (defined (roles_of (aag_header net)) (aag_rows net)) (first_of row)) (take (length net.outputs) (drop net.inputs (aag_rows net))))) defs
    ∙ ap (circuit_of net.inputs (map gate_def net.gates)) outputs)

-- the symbols give each port its name
pub symbols_read : (named : Named) → IsPrintable named → AreNames named.graph.inputs (length named.graph.outputs) (text_of_lines (symbols named)) named.input_names named.output_names
symbols_read named good =
    let ins = named.input_names in
    let outs = named.output_names in
    let i = named.graph.inputs in
    let o = length named.graph.outputs in
    let first = entries_from InputPort 0 ins in
    let few = good.within in
    let from_outputs = given i o OutputPort 0 outs [] first (all_entries ins outs) (omega (arith, good.outputs_named)) (omega (arith, few.outputs)) good.output_names (inputs_before ins 0) refl in
    let from_inputs = given i o InputPort 0 ins (symbol_lines 111 0 outs) [] (all_entries ins outs) (omega (arith, good.inputs_named)) (omega (arith, few.inputs)) good.input_names (All-nil (IsBefore InputPort 0)) (subst (λ (ls : List (List ℕ)). GiveNames i o ls first (all_entries ins outs)) (append-nil (symbol_lines 111 0 outs)) from_outputs) in
    let read = all_taken (symbols named) (names_on_lines named good) in
    record {
      entries = all_entries ins outs;
      symbols = subst (λ (ls : List (List ℕ)). GiveNames i o ls [] (all_entries ins outs)) (sym (ap (take_while (λ line. not (is_comment line))) (lines_of (symbols named) (symbols_on_lines named good)) ∙ read)) from_inputs;
      input_names_are = subst (λ n. ArePortNames (all_entries ins outs) InputPort n ins) good.inputs_named (inputs_named ins outs);
      output_names_are = subst (λ n. ArePortNames (all_entries ins outs) OutputPort n outs) good.outputs_named (outputs_named ins outs);
    }
  where
    inputs_before : (names : List (List ℕ)) (position : ℕ) → All (IsBefore OutputPort 0) (entries_from InputPort position names)
    inputs_before [] position = All-nil (IsBefore OutputPort 0)
    inputs_before (name ∷ names) position = All-cons (IsBefore OutputPort 0) (port_at InputPort position, name) (entries_from InputPort (position + 1) names) (λ clash. absurd (cc clash)) (inputs_before names (position + 1))

pub aag_is : (named : Named) → IsPrintable named → IsAiger (aag_text named) (as_circuit named.graph) named.input_names named.output_names
aag_is named good =
    let net = named.graph in
    let rest = text_of_lines (symbols named) in
    let file = aag_file named good in
    record {
      h = aag_header net;
      rest = rest;
      netlist = record {
        begins = file_begins false net good.within (aag_rows net) rest (aag_text named) file;
        rows = aag_rows net;
        body = file_body false net good.within (aag_rows net) rest (aag_text named) file;
        form = record {
          known = aag_known net good.within;
          same = aag_circuit net good.within.ordered;
          after = file_rest false net good.within (aag_rows net) rest (aag_text named) file;
        };
      };
      acyclic = as_circuit-acyclic net good.within.ordered;
      names = symbols_read named good;
    }
