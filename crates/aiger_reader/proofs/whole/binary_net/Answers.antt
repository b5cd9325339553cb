-- The netlist of the pairs is closed.
use Rattle.std.proofs.Common.{sym, ap₂, subst, ◌∙◌}
use Rattle.circuits.specs.Circuits.{IsClosed}
use Rattle.aiger_reader.specs.Numbered.{circuit_from}
use Rattle.aiger_reader.proofs.BinaryNetLemmas.{binary_plain}
use Rattle.aiger_reader.proofs.whole.binary_net.Goals as goal

pub new-requires-clause-closed : goal.new-requires-clause-closed
new-requires-clause-closed c =
    let header = c.args.header in
    let defs = c.from_vec.ensures ∙ c.in_ok-defs.ensures in
    let outputs = c.from_vec-2.ensures ∙ c.in_ok-outputs.ensures in
    subst IsClosed (sym (ap₂ (circuit_from header.inputs) defs outputs)) (binary_plain header c.args.outputs.now c.args.gates.now c.requires).closed
