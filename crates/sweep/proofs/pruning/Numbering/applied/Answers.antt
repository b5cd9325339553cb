-- The gates that stay, and the outputs, are the pruned netlist.
use Rattle.std.proofs.Common.{◌∙◌, sym, subst, arith}
use Rattle.circuits.specs.Netlists.{Net, signals_of}
use Rattle.sweep.specs.Pruning.{IsPruned}
use Rattle.sweep.proofs.NumberingLemmas.{few_ascending, pruned_of}
use Rattle.sweep.proofs.pruning.Numbering.applied.Goals as goal

pub outputs-requires-2-clause-few : goal.outputs-requires-2-clause-few
outputs-requires-2-clause-few c =
    omega (arith, few_ascending c.args.self.now.origins.items (signals_of c.args.graph.now) c.requires.ascending c.requires.there, c.outputs.ensures.graph.signals)

pub new-requires-clause-signals : goal.new-requires-clause-signals
new-requires-clause-signals c =
    let few = few_ascending c.args.self.now.origins.items (signals_of c.args.graph.now) c.requires.ascending c.requires.there in
    let port = (c.requires.ports c.args.graph.now.inputs (omega arith) (omega arith)).0 in
    omega (arith, few, port, c.in_ok-gates.ensures.count, c.in_ok-gates.gates.ok.0, c.inputs.ensures.value, c.outputs.ensures.graph.signals)

pub returns-clause-pruned : goal.returns-clause-pruned
returns-clause-pruned c =
    let net = c.args.graph.now in
    let origins = c.args.self.now.origins.items in
    let made : Net = record { inputs = c.inputs.result; gates = c.in_ok-gates.gates.items; outputs = c.in_ok-outputs.outputs.items } in
    subst (IsPruned net) (sym c.in-Some.ensures.graph) (pruned_of net origins c.args.self.now.numbers.items c.outputs.ensures.graph.ordered c.requires made c.inputs.ensures.value c.in_ok-gates.ensures (c.in_ok-outputs.ensures.were ∙ c.outputs.ensures.value))
