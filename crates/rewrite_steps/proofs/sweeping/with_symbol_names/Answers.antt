-- The names are those of the netlist as symbols are printed, so many as before.
use Rattle.std.proofs.Common.{length, map, ap, sym, ◌∙◌}
use Rattle.std.proofs.lemmas.List.{length-map}
use Rattle.print_laws.specs.Printable.{symbol_name}
use Rattle.rewrite_steps.proofs.sweeping.with_symbol_names.Goals as goal

pub invariant_of-result : goal.invariant_of-result
invariant_of-result c = record {
  inputs_named = ap length (c.in_ok-input_names.ensures ∙ ap (map symbol_name) c.deref.ensures.value) ∙ (length-map c.args.netlist.now.input_names symbol_name ∙ (c.args.netlist.now.inputs_named ∙ sym c.requires.inputs));
  outputs_named = ap length (c.in_ok-output_names.ensures ∙ ap (map symbol_name) c.deref-2.ensures.value) ∙ (length-map c.args.netlist.now.output_names symbol_name ∙ (c.args.netlist.now.outputs_named ∙ sym c.requires.outputs));
}

pub returns-clause-input_names : goal.returns-clause-input_names
returns-clause-input_names c = c.in_ok-input_names.ensures ∙ ap (map symbol_name) c.deref.ensures.value

pub returns-clause-output_names : goal.returns-clause-output_names
returns-clause-output_names c = c.in_ok-output_names.ensures ∙ ap (map symbol_name) c.deref-2.ensures.value
