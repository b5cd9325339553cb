use Rattle.std.proofs.Common.{length}
use Rattle.port_moves.proofs.Inverted.{inverse_bijection, restored_equal}
use Rattle.port_moves.proofs.restoring.restored.Goals as goal

pub moved_graph-requires-clause-inputs : goal.moved_graph-requires-clause-inputs
moved_graph-requires-clause-inputs c =
    inverse_bijection c.args.second.now.inputs c.args.matching.now.inputs c.in_ok-back.back.inputs c.requires.inputs c.in_ok-back.ensures.inputs

pub moved_graph-requires-clause-outputs : goal.moved_graph-requires-clause-outputs
moved_graph-requires-clause-outputs c =
    inverse_bijection (length c.args.second.now.outputs) c.args.matching.now.outputs c.in_ok-back.back.outputs c.requires.outputs c.in_ok-back.ensures.outputs

pub returns-clause-equal : goal.returns-clause-equal
returns-clause-equal c first there =
    let p = c.args.matching.now.inputs in
    let q = c.args.matching.now.outputs in
    restored_equal first c.args.second.now c.in_ok-graph.graph p q c.in_ok-back.back.inputs c.in_ok-back.back.outputs there
    c.in_ok-back.ensures.inputs c.in_ok-back.ensures.outputs c.in_ok-graph.ensures.matches
