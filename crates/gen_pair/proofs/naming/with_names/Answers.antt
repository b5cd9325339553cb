use Rattle.std.proofs.Common.{length, ap, ◌∙◌}
use Rattle.std.proofs.lemmas.List.FromFn.{length-map-range_with_len}
use Rattle.gen_pair.specs.Names.{port_name}
use Rattle.gen_pair.proofs.naming.with_names.Goals as goal

pub invariant_of-result : goal.invariant_of-result
invariant_of-result c = record {
  inputs_named = ap length c.in_ok-input_names.ensures ∙ length-map-range_with_len (port_name c.args.letters.input) 0 c.inputs.result ∙ c.inputs.ensures.value;
  outputs_named = ap length c.in_ok-output_names.ensures ∙ length-map-range_with_len (port_name c.args.letters.output) 0 (length c.outputs.result.now) ∙ ap length c.outputs.ensures.value;
}
