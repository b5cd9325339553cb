-- A netlist with a file's ports, by their names, can be printed.
use Rattle.std.proofs.Common.{◌≡◌, ℕ, ◌≤◌, inl, inr, List, length, map, All, Option, refl, sym, ap, subst, ◌∙◌, arith}
use Rattle.std.proofs.lemmas.List.{length-map}
use Rattle.circuits.specs.Circuits.{Circuit}
use Rattle.circuits.specs.Functions.{Computes, as_circuit}
use Rattle.circuits.specs.Netlists.{IsOrdered}
use Rattle.circuits.proofs.AsCircuit.{as_circuit-computed}
use Rattle.net_core.specs.Limits.{most_gates}
use Rattle.net_file.specs.declared.named.Named.{Named}
use Rattle.net_print.specs.Files.{aag_text}
use Rattle.aiger_reader.specs.Aiger.{IsAiger}
use Rattle.print_laws.specs.Printable.{IsPrintable, IsSymbolName, symbol_name}
use Rattle.print_laws.proofs.Aag.{aag_is}
use Rattle.print_laws.proofs.ReadNames.{IsNameOnLine, aiger_names, blif_names, symbol_names_good}
use Rattle.port_moves.specs.Restored.{AreEqual}
use Rattle.port_moves.proofs.EqualCircuits.{equal_circuits}
use Rattle.check_steps.specs.Circuits.{IsCircuit}
use Rattle.check_steps.specs.Held.{HasNetlist}
use Rattle.check_steps.specs.Reading.{netlist_of}
use Rattle.check_steps.proofs.CircuitLemmas.{few_ports, ports_named}
use Rattle.run_steps.specs.Sweep.{IsFileOf}

-- the names of a file's ports stand on lines
names_on_lines : (bytes : List ℕ) (circuit : Circuit) (i o : List (List ℕ)) → IsCircuit bytes circuit i o → All IsNameOnLine i × All IsNameOnLine o
names_on_lines bytes circuit i o is =
    elim is [ inl (begins, aiger) ↦ aiger_names bytes circuit i o aiger | inr (not, blif) ↦ blif_names bytes circuit i o blif ]

-- A file was read, and this netlist has its ports, with their names as symbols are printed.
module _ (content : Option (List ℕ)) (circuit : Circuit) (read printed : Named)
    (holds : HasNetlist content (netlist_of circuit read)) (computes : Computes read.graph circuit)
    (equal : AreEqual read.graph printed.graph) (ordered : IsOrdered printed.graph) (few : length printed.graph.gates ≤ most_gates)
    (input_names : printed.input_names ≡ map symbol_name read.input_names) (output_names : printed.output_names ≡ map symbol_name read.output_names) where
  pub printable : IsPrintable printed
  printable =
      let ports = few_ports holds.bytes circuit read.input_names read.output_names holds.is in
      let named = ports_named holds.bytes circuit read.input_names read.output_names holds.is in
      let names = names_on_lines holds.bytes circuit read.input_names read.output_names holds.is in
      record {
        within = record {
          ordered = ordered;
          inputs = omega (arith, ports.0, computes.inputs, equal.inputs);
          outputs = omega (arith, ports.1, computes.outputs, equal.outputs);
          gates = few;
        };
        inputs_named = ap length input_names ∙ (length-map read.input_names symbol_name ∙ (named.0 ∙ (sym computes.inputs ∙ sym equal.inputs)));
        outputs_named = ap length output_names ∙ (length-map read.output_names symbol_name ∙ (named.1 ∙ (sym computes.outputs ∙ sym equal.outputs)));
        input_names = subst (All IsSymbolName) (sym input_names) (symbol_names_good read.input_names names.0);
        output_names = subst (All IsSymbolName) (sym output_names) (symbol_names_good read.output_names names.1);
      }

  -- as it is printed in the ASCII form, it is a file that computes what the one that was read does
  pub ascii_file : IsFileOf (netlist_of circuit read) printed.graph (aag_text printed)
  ascii_file = record {
    printed = printed;
    graph = refl;
    text = refl;
    file = subst (λ names. IsAiger (aag_text printed) (as_circuit printed.graph) names (map symbol_name read.output_names)) input_names
        (subst (IsAiger (aag_text printed) (as_circuit printed.graph) printed.input_names) output_names (aag_is printed printable));
    same = equal_circuits circuit (as_circuit printed.graph) read.graph printed.graph computes (as_circuit-computed printed.graph ordered) equal;
  }
