-- The operands of a gate that is marked are marked.
use Rattle.std.proofs.Common.{◌≡◌, ◌+◌, ◌∙◌, true, List, set, slice_index_or, sym, ap, arith}
use Rattle.circuits.specs.declared.netlist.Gate.{Gate}
use Rattle.circuits.specs.Literals.{bit, false_literal, signal_of}
use Rattle.sweep.specs.Pruning.{gate_at}
use Rattle.sweep.proofs.MarkLemmas.{gate_marked}
use Rattle.sweep.proofs.pruning.mark_operands_of.Goals as goal

pub returns-then-used-inputs : goal.returns-then-used-inputs
returns-then-used-inputs c =
    let net = c.args.graph.now in
    let place = c.args.place in
    let used = c.args.used.now in
    let none : Gate = record { a = false_literal; b = false_literal } in
    let gate : slice_index_or c.gates.result.now place none ≡ gate_at net place = ap (λ (gs : List Gate). slice_index_or gs place none) c.gates.ensures.value in
    let a = c.signal.ensures ∙ ap (λ (g : Gate). signal_of g.a) gate in
    let b = c.signal-then-used-inputs.ensures ∙ ap (λ (g : Gate). signal_of g.b) gate in
    let at : c.inputs.result + 1 + place ≡ 1 + net.inputs + place = omega (arith, c.inputs.ensures.value) in
    let marked : bit used (1 + net.inputs + place) ≡ true = ap (bit used) (sym at) ∙ c.if-used-inputs.true in
    gate_marked net place used _ c.gates.ensures.graph.ordered c.requires.there marked (ap (λ s. set (set used s true) c.signal-then-used-inputs.result true) a ∙ ap (λ s. set (set used (signal_of (gate_at net place).a) true) s true) b) c.requires.marked
