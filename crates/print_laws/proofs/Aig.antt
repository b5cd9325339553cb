-- What is printed in the binary form of AIGER is a file of the same netlist, with the greater operand of each gate first.
use Rattle.std.proofs.Common.{◌≡◌, ◌≢◌, ℕ, ◌+◌, true, List, [], ◌∷◌, ◌++◌, length, map, get_or, drop, replicate, AllPairs, refl, sym, ap, subst, ◌∙◌, arith}
use Rattle.std.proofs.lemmas.List.{length-map, append-nil}
use Rattle.text_core.specs.Lines.{text_of_lines}
use Rattle.circuits.specs.Netlists.{Net, IsOrdered}
use Rattle.circuits.specs.Functions.{as_circuit, gate_def}
use Rattle.circuits.specs.declared.netlist.Gate.{Gate}
use Rattle.circuits.specs.declared.netlist.Lit.{Lit}
use Rattle.circuits.specs.declared.definition.Def.{Def}
use Rattle.circuits.proofs.AsCircuit.{as_circuit-acyclic}
use Rattle.net_file.specs.declared.named.Named.{Named}
use Rattle.aiger_reader.specs.Headers.{AigerHeader}
use Rattle.aiger_reader.specs.Bodies.{Role, Output, roles_of, line_offset, first_of, lit_from}
use Rattle.aiger_reader.specs.Deltas.{AreGates, BeginsGates, and_from}
use Rattle.aiger_reader.specs.Aiger.{IsAiger}
use Rattle.net_print.specs.Rows.{output_row, symbols}
use Rattle.net_print.specs.Deltas.{deltas}
use Rattle.net_print.specs.Files.{aig_text}
use Rattle.print_laws.specs.Ordered.{greater_first, with_greater_first}
use Rattle.print_laws.specs.Printable.{IsWithinLimits, IsPrintable}
use Rattle.print_laws.proofs.Fitting.{below, IsSection, outputs_section}
use Rattle.print_laws.proofs.Deltas.{operands_of, gates_begin}
use Rattle.print_laws.proofs.OperandOrder.{ordered_too}
use Rattle.print_laws.proofs.Aag.{greatest_of, header_of_net, outputs_read, circuit_of, symbols_read, IsFile, file_begins, file_body, file_rest, outs}

abbrev aig_header : Net → AigerHeader
aig_header net = header_of_net true net

-- what stands after the lines
abbrev back : Named → List ℕ
back named = deltas (named.graph.inputs + 1) named.graph.gates ++ text_of_lines (symbols named)

roles_are : (net : Net) → roles_of (aig_header net) ≡ replicate (length net.outputs) Output
roles_are net = append-nil (replicate (length net.outputs) Output)

outs_section : (net : Net) → IsOrdered net → IsSection (greatest_of net) (roles_of (aig_header net)) (outs net) []
outs_section net ordered =
    subst (λ (roles : List Role). IsSection (greatest_of net) roles (outs net) []) (sym (roles_are net)) (outputs_section (greatest_of net) net.outputs (outputs_read net ordered))

aig_file : (named : Named) → IsWithinLimits named.graph → IsFile true named.graph (outs named.graph) (back named) (aig_text named)
aig_file named within = record {
  fits = (outs_section named.graph within.ordered).fits;
  distinct = subst (λ (vs : List ℕ). AllPairs (λ one other. one ≢ other) vs) (sym (outs_section named.graph within.ordered).defines) (λ i j d before there. absurd (omega (arith, there)));
  begins = refl;
  whole = refl;
  after_keyword = refl;
}

gates_after : (named : Named) → IsWithinLimits named.graph → back named ≡ drop (line_offset (aig_text named) (1 + length named.graph.outputs)) (aig_text named)
gates_after named within =
    file_rest true named.graph within (outs named.graph) (back named) (aig_text named) (aig_file named within)
    ∙ ap (λ n. drop (line_offset (aig_text named) (1 + n)) (aig_text named)) (length-map named.graph.outputs output_row)

aig_gates : (named : Named) → IsWithinLimits named.graph → AreGates (aig_text named) (aig_header named.graph) (map operands_of named.graph.gates) (text_of_lines (symbols named))
aig_gates named within =
    let net = named.graph in
    record {
      count = length-map net.gates operands_of;
      read = subst (λ (bytes : List ℕ). BeginsGates (net.inputs + 1) bytes (map operands_of net.gates) (text_of_lines (symbols named))) (gates_after named within)
          (gates_begin (net.inputs + 1) net.gates (text_of_lines (symbols named)) (omega (arith, within.inputs, within.gates))
          (λ t d h. omega (arith, below (get_or net.gates t d).a.0 (1 + net.inputs + t) (within.ordered.first_operands t d h), below (get_or net.gates t d).b.0 (1 + net.inputs + t) (within.ordered.second_operands t d h))));
    }

outputs_same : (outputs : List Lit) → map (λ row. lit_from (first_of row)) (map output_row outputs) ≡ outputs
outputs_same [] = refl
outputs_same (output ∷ outputs) = ap (λ rest. output ∷ rest) (outputs_same outputs)

gates_same : (gates : List Gate) → map gate_def (map greater_first gates) ≡ map and_from (map operands_of gates)
gates_same [] = refl
gates_same (gate ∷ gates) = ap (λ rest. gate_def (greater_first gate) ∷ rest) (gates_same gates)

pub aig_is : (named : Named) → IsPrintable named → IsAiger (aig_text named) (as_circuit (with_greater_first named.graph)) named.input_names named.output_names
aig_is named good = record {
  h = aig_header named.graph;
  rest = text_of_lines (symbols named);
  netlist = record {
    begins = file_begins true named.graph good.within (outs named.graph) (back named) (aig_text named) (aig_file named good.within);
    rows = outs named.graph;
    body = file_body true named.graph good.within (outs named.graph) (back named) (aig_text named) (aig_file named good.within);
    form = record {
      gates = map operands_of named.graph.gates;
      read = aig_gates named good.within;
      same =
          ap (λ (ds : List Def). circuit_of named.graph.inputs ds named.graph.outputs) (gates_same named.graph.gates)
          ∙ ap (circuit_of named.graph.inputs (map and_from (map operands_of named.graph.gates))) (sym (outputs_same named.graph.outputs));
    };
  };
  acyclic = as_circuit-acyclic (with_greater_first named.graph) (ordered_too named.graph good.within.ordered);
  names = symbols_read named good;
}
