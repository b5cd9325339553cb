-- One gate more is marked where an operand is.
use Rattle.std.proofs.Common.{◌≡◌, ◌+◌, ◌||◌, if◌then◌else◌, true, List, length, take, set, slice_index_or, refl, ap, subst, ◌∙◌, arith}
use Rattle.std.proofs.lemmas.List.{get_or_default, length-take-le}
use Rattle.circuits.specs.declared.netlist.Gate.{Gate}
use Rattle.circuits.specs.Literals.{bit, signal_of}
use Rattle.query_core.proofs.ReachingLemmas.{AreMarking, marking_done, marking_more}
use Rattle.query_core.proofs.reaching.mark_cone.Goals as goal

pub loop-gate-preserved : goal.loop-gate-preserved
loop-gate-preserved c =
    let net = c.args.graph.now in
    let gates = c.args.gates.now in
    let marked = c.loop-gate.marked in
    let i = c.loop-gate.gate-index in
    let t = slice_index_or gates i 0 in
    let none : Gate = record { a = record { 0 = 0 }; b = record { 0 = 0 } } in
    let row : Gate = slice_index_or net.gates t none in
    let same : slice_index_or c.gates-all.result.now t none ≡ row = ap (λ (gs : List Gate). slice_index_or gs t none) c.gates-all.ensures.value in
    let a : c.signal.result ≡ signal_of row.a = c.signal.ensures ∙ ap (λ (g : Gate). signal_of g.a) same in
    let b : c.signal-in-loop-gate.result ≡ signal_of row.b = c.signal-in-loop-gate.ensures ∙ ap (λ (g : Gate). signal_of g.b) same in
    let there = c.requires.cone.are.there i 0 c.loop-gate-test.true in
    let start = take (net.inputs + 1) c.args.marked.now in
    let size = length-take-le (net.inputs + 1) c.args.marked.now (omega (arith, c.requires.room)) in
    let v = bit marked (signal_of row.a) || bit marked (signal_of row.b) in
    let first_bit = c.has.ensures ∙ ap (bit marked) a in
    let second_bit = c.has-in-loop-gate.ensures ∙ ap (bit marked) b in
    let value = ap (λ x. x || c.has-in-loop-gate.result) first_bit ∙ ap (λ y. bit marked (signal_of row.a) || y) second_bit in
    let new = c.in_ok-mark_where.ensures.marked
    ∙ (ap (λ n. if c.has.result || c.has-in-loop-gate.result then set marked (n + 1 + t) true else marked) c.inputs.ensures.value
    ∙ ap (λ b. if b then set marked (net.inputs + 1 + t) true else marked) value) in
    marking_more net c.requires.cone.output start gates i t row marked c.mark_where.new.self c.inputs.ensures.graph c.requires.cone.are size c.loop-gate-test.true refl (λ d. get_or_default net.gates t none d there) new c.loop-gate.invariant

pub returns-clause-marks : goal.returns-clause-marks
returns-clause-marks c =
    let net = c.args.graph.now in
    let start = take (net.inputs + 1) c.args.marked.now in
    let all : c.loop-gate.gate-index ≡ length c.args.gates.now = omega (arith, c.loop-gate.auto.gate-index-end, c.loop-gate-test.false) in
    marking_done net start c.args.gates.now c.loop-gate.marked (subst (λ n. AreMarking net start c.args.gates.now n c.loop-gate.marked) all c.loop-gate.invariant)
