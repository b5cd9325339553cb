use Rattle.std.proofs.Common.{map, sym, ap, subst, ◌∙◌}
use Rattle.std.proofs.lemmas.Bool.{false≢true}
use Rattle.circuits.specs.Netlists.{Net}
use Rattle.port_moves.specs.Moved.{moved_gate, AreMovedOutputs}
use Rattle.port_moves.proofs.MovedMatch.{moved_match}
use Rattle.port_moves.proofs.Orders.{moved_ordered}
use Rattle.port_moves.proofs.moving.moved_graph.Goals as goal

pub unreachable-requires : goal.unreachable-requires
unreachable-requires c =
    let graph = c.args.graph.now in
    let inputs = c.args.matching.now.inputs in
    let outputs = c.args.matching.now.outputs in
    let second : Net = record { inputs = c.inputs.result; gates = c.in_ok-gates.gates.items; outputs = c.in_ok-outputs.outputs.items } in
    let gates = c.in_ok-gates.ensures ∙ ap (λ p. map (moved_gate p) c.gates.result.now) c.deref.ensures.value ∙ ap (map (moved_gate inputs)) c.gates.ensures.value in
    let moves = subst (λ o. AreMovedOutputs inputs outputs o c.in_ok-outputs.outputs.items) c.outputs.ensures.value c.in_ok-outputs.ensures in
    false≢true (c.in-None.ensures.ordered.1 (moved_ordered graph second inputs outputs c.gates.ensures.graph.ordered c.requires.inputs c.requires.outputs c.inputs.ensures.value gates moves))

pub returns-clause-matches : goal.returns-clause-matches
returns-clause-matches c =
    let graph = c.args.graph.now in
    let inputs = c.args.matching.now.inputs in
    let outputs = c.args.matching.now.outputs in
    let is = c.in-Some.ensures.graph in
    let gates = ap (λ (n : Net). n.gates) is ∙ c.in_ok-gates.ensures ∙ ap (λ p. map (moved_gate p) c.gates.result.now) c.deref.ensures.value ∙ ap (map (moved_gate inputs)) c.gates.ensures.value in
    let made = subst (λ o. AreMovedOutputs inputs outputs o c.in_ok-outputs.outputs.items) c.outputs.ensures.value c.in_ok-outputs.ensures in
    let moves = subst (λ (n : Net). AreMovedOutputs inputs outputs graph.outputs n.outputs) (sym is) made in
    moved_match graph c.in-Some.second inputs outputs c.gates.ensures.graph.ordered c.requires.inputs c.requires.outputs (ap (λ (n : Net). n.inputs) is ∙ c.inputs.ensures.value) gates moves
