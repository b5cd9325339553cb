-- One gate more.
use Rattle.std.proofs.Common.{◌≡◌, ◌+◌, ◌-◌, slice_index_or, sym, ap, subst, ◌∙◌, arith}
use Rattle.circuits.specs.declared.netlist.Gate.{Gate}
use Rattle.circuits.specs.Netlists.{signals_of}
use Rattle.sweep.specs.Pruning.{AreGatesOf, IsNumberedLiteral, gate_at, gate_origin}
use Rattle.sweep.proofs.NumberingLemmas.{after_place, few_ascending, gate_of, gate_read, gates_more, operands_numbered}
use Rattle.sweep.proofs.pruning.Numbering.gates.Goals as goal

pub overflow_sub-gate : goal.overflow_sub-gate
overflow_sub-gate c =
    let net = c.args.graph.now in
    let origins = c.args.self.now.origins.items in
    let k = c.loop-signal.signal-index in
    let f = c.inputs.result + 1 in
    let at = after_place origins c.deref.result.now f net.inputs k c.deref.ensures.value (omega (arith, c.inputs.ensures.value)) c.loop-signal-test.true in
    let gate = gate_of net origins c.args.self.now.numbers.items c.inputs.ensures.graph.ordered c.requires k at.0 in
    omega (arith, at.1, gate.signal, c.inputs.ensures.value)

pub literal-requires-clause-few : goal.literal-requires-clause-few
literal-requires-clause-few c =
    omega (arith, few_ascending c.args.self.now.origins.items (signals_of c.args.graph.now) c.requires.ascending c.requires.there, c.inputs.ensures.graph.signals)

pub literal-requires-in-loop-signal-clause-few : goal.literal-requires-in-loop-signal-clause-few
literal-requires-in-loop-signal-clause-few c =
    omega (arith, few_ascending c.args.self.now.origins.items (signals_of c.args.graph.now) c.requires.ascending c.requires.there, c.inputs.ensures.graph.signals)

pub literal-requires-clause-numbered : goal.literal-requires-clause-numbered
literal-requires-clause-numbered c =
    let net = c.args.graph.now in
    let origins = c.args.self.now.origins.items in
    let numbers = c.args.self.now.numbers.items in
    let k = c.loop-signal.signal-index in
    let f = c.inputs.result + 1 in
    let place : c.inputs.result + 1 ≡ 1 + net.inputs = omega (arith, c.inputs.ensures.value) in
    let at = after_place origins c.deref.result.now f net.inputs k c.deref.ensures.value place c.loop-signal-test.true in
    let s = slice_index_or origins (1 + net.inputs + k) 0 in
    let is = gate_read net c.gates.result.now f _ s c.gates.ensures.value place at.1 in
    let both = operands_numbered net origins numbers c.inputs.ensures.graph.ordered c.requires k (s - (1 + net.inputs)) (gate_of net origins numbers c.inputs.ensures.graph.ordered c.requires k at.0) in
    subst (λ (g : Gate). IsNumberedLiteral origins numbers g.a) (sym is) both.0

pub literal-requires-in-loop-signal-clause-numbered : goal.literal-requires-in-loop-signal-clause-numbered
literal-requires-in-loop-signal-clause-numbered c =
    let net = c.args.graph.now in
    let origins = c.args.self.now.origins.items in
    let numbers = c.args.self.now.numbers.items in
    let k = c.loop-signal.signal-index in
    let f = c.inputs.result + 1 in
    let place : c.inputs.result + 1 ≡ 1 + net.inputs = omega (arith, c.inputs.ensures.value) in
    let at = after_place origins c.deref.result.now f net.inputs k c.deref.ensures.value place c.loop-signal-test.true in
    let s = slice_index_or origins (1 + net.inputs + k) 0 in
    let is = gate_read net c.gates.result.now f _ s c.gates.ensures.value place at.1 in
    let both = operands_numbered net origins numbers c.inputs.ensures.graph.ordered c.requires k (s - (1 + net.inputs)) (gate_of net origins numbers c.inputs.ensures.graph.ordered c.requires k at.0) in
    subst (λ (g : Gate). IsNumberedLiteral origins numbers g.b) (sym is) both.1

pub loop-signal-preserved : goal.loop-signal-preserved
loop-signal-preserved c =
    let net = c.args.graph.now in
    let origins = c.args.self.now.origins.items in
    let numbers = c.args.self.now.numbers.items in
    let k = c.loop-signal.signal-index in
    let f = c.inputs.result + 1 in
    let place : c.inputs.result + 1 ≡ 1 + net.inputs = omega (arith, c.inputs.ensures.value) in
    let at = after_place origins c.deref.result.now f net.inputs k c.deref.ensures.value place c.loop-signal-test.true in
    let s = slice_index_or origins (1 + net.inputs + k) 0 in
    let is = gate_read net c.gates.result.now f _ s c.gates.ensures.value place at.1 in
    let gate : Gate = record { a = c.literal.result; b = c.literal-in-loop-signal.result } in
    let a = c.literal.ensures.was ∙ ap (λ (g : Gate). g.a) is in
    let b = c.literal-in-loop-signal.ensures.was ∙ ap (λ (g : Gate). g.b) is in
    let was : gate_origin origins gate ≡ gate_at net (s - (1 + net.inputs)) = λ i. record { a = a i; b = b i } in
    subst (AreGatesOf net origins (k + 1)) (sym c.in_ok-push.ensures.items) (gates_more net origins numbers c.inputs.ensures.graph.ordered c.requires k c.loop-signal.gates.items gate at.0 was c.literal.ensures.there c.literal-in-loop-signal.ensures.there c.loop-signal.invariant)
