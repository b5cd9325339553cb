-- The gates that are found, in order, are those that the output reaches.
use Rattle.std.proofs.Common.{◌≡◌, ◌+◌, ◌<◌, List, All, length, slice_index_or, ap, subst, ◌∙◌}
use Rattle.std.proofs.lemmas.List.Sorted.{All-permutation}
use Rattle.circuits.specs.declared.netlist.Gate.{Gate}
use Rattle.circuits.specs.declared.netlist.Lit.{Lit}
use Rattle.circuits.specs.Literals.{signal_of}
use Rattle.net_core.specs.Cones.{AreReachedFrom, output_signal}
use Rattle.net_core.proofs.ConeLemmas.{ascending_cone, cone_gates}
use Rattle.net_core.proofs.graph.Graph.cone.Goals as goal

pub returns-clause-ascending : goal.returns-clause-ascending
returns-clause-ascending c =
    ascending_cone c.in_ok-gates.gates.items c.sort_unstable.new.self.items c.in_ok-gates.ensures.distinct c.sort_unstable.ensures.permutation c.sort_unstable.ensures.sorted

pub returns-clause-there : goal.returns-clause-there
returns-clause-there c =
    let net = c.args.self.now in
    let there = subst (λ (gs : List Gate). All (λ t. t < length gs) c.in_ok-gates.gates.items) c.gates.ensures.value c.in_ok-gates.ensures.there in
    All-permutation (λ t. t < length net.gates) c.in_ok-gates.gates.items c.sort_unstable.new.self.items c.sort_unstable.ensures.permutation there

pub returns-clause-reached : goal.returns-clause-reached
returns-clause-reached c =
    let net = c.args.self.now in
    let k = c.args.output in
    let found = c.in_ok-gates.gates.items in
    let none : Lit = record { 0 = 0 } in
    let signal : c.signal-signal.result ≡ output_signal net k = c.signal-signal.ensures ∙ ap (λ (ls : List Lit). signal_of (slice_index_or ls k none)) c.outputs.ensures.value in
    let reached =
    subst (λ s. AreReachedFrom (1 + net.inputs) net.gates s found) signal (subst (λ (gs : List Gate). AreReachedFrom (1 + net.inputs) gs c.signal-signal.result found) c.gates.ensures.value (subst (λ n. AreReachedFrom (1 + n) c.gates.result.now c.signal-signal.result found) c.inputs-first_gate.ensures.value c.in_ok-gates.ensures)) in
    cone_gates net k found c.sort_unstable.new.self.items reached c.sort_unstable.ensures.permutation
