use Rattle.std.proofs.Common.{ap, ◌∙◌}
use Rattle.blif_reader.specs.Numbers.{bytes_of}
use Rattle.hier_blif.specs.Names.{inputs_of, outputs_of}
use Rattle.hier_blif.specs.Models.{top_of}
use Rattle.hier_blif.proofs.WholeLemmas.{inputs_named, outputs_named}
use Rattle.hier_blif.proofs.whole.name_net.Goals as goal

pub invariant_of-result : goal.invariant_of-result
invariant_of-result c =
    let input = c.args.input.now in
    let graph = c.in_ok-graph.graph in
    let is = c.in_ok-graph.ensures.graph in
    let inputs = c.in_ok-input_names.ensures ∙ (c.input_names.ensures ∙ ap (λ models. bytes_of (inputs_of (top_of models))) c.requires.models) in
    let outputs = c.in_ok-output_names.ensures ∙ (c.output_names.ensures ∙ ap (λ models. bytes_of (outputs_of (top_of models))) c.requires.models) in
    record {
      inputs_named = inputs_named input graph c.in_ok-input_names.input_names is inputs;
      outputs_named = outputs_named input graph c.in_ok-output_names.output_names is outputs;
    }

pub returns-clause-named : goal.returns-clause-named
returns-clause-named c =
    record {
      graph_is = c.in_ok-graph.ensures.graph;
      input_names_are = c.in_ok-input_names.ensures ∙ (c.input_names.ensures ∙ ap (λ models. bytes_of (inputs_of (top_of models))) c.requires.models);
      output_names_are = c.in_ok-output_names.ensures ∙ (c.output_names.ensures ∙ ap (λ models. bytes_of (outputs_of (top_of models))) c.requires.models);
    }
