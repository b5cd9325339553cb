use Rattle.std.proofs.Common.{ap, ◌∙◌}
use Rattle.circuits.specs.declared.port.PortKind.TheVariants.{Input, Output}
use Rattle.blif_reader.specs.Numbers.{port_names}
use Rattle.blif_reader.proofs.BlifLemmas.{read_as}
use Rattle.blif_reader.proofs.FewPorts.{named_graph}
use Rattle.blif_reader.proofs.whole.name_net.Goals as goal

pub invariant_of-result : goal.invariant_of-result
invariant_of-result c =
    let made = c.in_ok-graph.ensures in
    let inputs = c.in_ok-input_names.ensures ∙ ap (port_names Input) (c.deref.ensures.value ∙ c.requires.surveyed.ports) in
    let outputs = c.in_ok-output_names.ensures ∙ ap (port_names Output) (c.deref-2.ensures.value ∙ c.requires.surveyed.ports) in
    let named = named_graph _ _ _ _ (read_as c.args.input.now c.in_ok-graph.graph _ _ c.requires.few made.acyclic made.few_gates made.ordered inputs outputs) in
    record { inputs_named = named.0; outputs_named = named.1 }

pub returns-clause-netlist : goal.returns-clause-netlist
returns-clause-netlist c =
    let made = c.in_ok-graph.ensures in
    let inputs = c.in_ok-input_names.ensures ∙ ap (port_names Input) (c.deref.ensures.value ∙ c.requires.surveyed.ports) in
    let outputs = c.in_ok-output_names.ensures ∙ ap (port_names Output) (c.deref-2.ensures.value ∙ c.requires.surveyed.ports) in
    read_as c.args.input.now c.in_ok-graph.graph _ _ c.requires.few made.acyclic made.few_gates made.ordered inputs outputs
