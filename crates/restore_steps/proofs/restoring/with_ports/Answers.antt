-- The graph has the first netlist's ports.
use Rattle.std.proofs.Common.{length, map, ap, sym, ◌∙◌}
use Rattle.std.proofs.lemmas.List.{length-map}
use Rattle.circuits.proofs.MatchLaws.{IsSignedBijection-at}
use Rattle.print_laws.specs.Printable.{symbol_name}
use Rattle.restore_steps.proofs.restoring.with_ports.Goals as goal

pub restored-requires-clause-inputs : goal.restored-requires-clause-inputs
restored-requires-clause-inputs c = IsSignedBijection-at _ _ _ c.requires.same_inputs c.requires.inputs

pub restored-requires-clause-outputs : goal.restored-requires-clause-outputs
restored-requires-clause-outputs c = IsSignedBijection-at _ _ _ c.requires.same_outputs c.requires.outputs

pub invariant_of-result : goal.invariant_of-result
invariant_of-result c =
    let equal = c.in_ok-graph.ensures.equal c.args.first.now.graph c.requires in
    record {
      inputs_named = ap length (c.in_ok-input_names.ensures ∙ ap (map symbol_name) c.deref.ensures.value) ∙ (length-map c.args.first.now.input_names symbol_name ∙ (c.args.first.now.inputs_named ∙ sym equal.inputs));
      outputs_named = ap length (c.in_ok-output_names.ensures ∙ ap (map symbol_name) c.deref-2.ensures.value) ∙ (length-map c.args.first.now.output_names symbol_name ∙ (c.args.first.now.outputs_named ∙ sym equal.outputs));
    }

pub returns : goal.returns
returns c = record {
  equal = c.in_ok-graph.ensures.equal c.args.first.now.graph c.requires;
  sound = c.in_ok-graph.ensures.sound;
  gates = c.in_ok-graph.ensures.size;
  input_names = c.in_ok-input_names.ensures ∙ ap (map symbol_name) c.deref.ensures.value;
  output_names = c.in_ok-output_names.ensures ∙ ap (map symbol_name) c.deref-2.ensures.value;
}
