-- One gate more is gone over.
use Rattle.std.proofs.Common.{◌≡◌, ◌≤◌, ◌+◌, length, sym, subst, ap, ◌∙◌, arith}
use Rattle.circuits.specs.Netlists.{Net}
use Rattle.net_core.specs.Graph.{IsGraph}
use Rattle.fact_tests.specs.LocalExchanges.{Spreads}
use Rattle.fact_tests.proofs.LocalLemmas.{both_spans, covered_more, spreads_end, spreads_start, step_differs, step_same}
use Rattle.fact_tests.proofs.local_exchange.spread.Goals as goal
use Rattle.fact_tests.proofs.local_exchange.spread.Goals.{in-Same, in-Differs}

pub loop-place-init : goal.loop-place-init
loop-place-init c =
    let net = c.args.readers.now in
    let count = length net.gates in
    let start = c.min-start.result in
    let end = c.max-end.result in
    let at = both_spans c.span-one.result c.span-other.result c.min.result start end c.max-end.ensures c.min.ensures c.min-start.ensures in
    let is : c.graph-graph.result.now ≡ net = c.graph-graph.ensures in (
      subst (λ (net : Net). Spreads net c.args.i c.args.j c.args.inverted start start end c.args.near.now) (sym is)
          (spreads_start net c.args.i c.args.j c.args.inverted start end c.args.near.now (subst (λ (net : Net). IsGraph net) is c.gates-gates.ensures.graph).ordered c.requires.order c.requires.there c.requires.leaves c.requires.changed at.2
          (omega (arith, c.max-end.ensures, c.span-one.ensures.end, c.span-other.ensures.end))
          (covered_more net.gates count c.span-one.result.start c.span-one.result.end start end (c.args.i + 1) at.0 at.3 c.span-one.ensures.covers)
          (covered_more net.gates count c.span-other.result.start c.span-other.result.end start end (c.args.j + 1) at.1 at.4 c.span-other.ensures.covers)),
      omega arith,
    )

pub returns-then-place-end : goal.returns-then-place-end
returns-then-place-end c =
    λ whole.
    let net = c.args.readers.now in
    let is : c.graph-graph.result.now ≡ net = c.graph-graph.ensures in
    let spreads = subst (λ (net : Net). Spreads net c.args.i c.args.j c.args.inverted c.min-start.result c.loop-place.place c.loop-place.end c.loop-place.near) is c.loop-place.invariant.0 in
    spreads_end net c.args.i c.args.j c.args.inverted c.min-start.result c.loop-place.place c.loop-place.end c.loop-place.near (subst (λ (net : Net). IsGraph net) is c.gates-gates.ensures.graph).ordered c.if-place-end.true
    (omega (arith, c.loop-place-test.true, ap (λ (net : Net). length net.gates) is, ap length c.gates-gates.ensures.value)) spreads

pub loop-place-preserved : goal.loop-place-preserved
loop-place-preserved c =
    let net = c.graph-graph.result.now in
    let gates = c.gates-gates.result.now in
    let ordered = c.gates-gates.ensures.graph.ordered in
    let start = c.min-start.result in
    let signal = c.inputs.result + 1 + c.loop-place.place in
    let is : signal ≡ 1 + net.inputs + c.loop-place.place = omega (arith, c.inputs.ensures.value) in
    elim c.match-branch-2.branch [
      | in-Same w ↦
          step_same net gates c.args.i c.args.j c.args.inverted start c.loop-place.place c.loop-place.end c.match-branch-2.end signal c.loop-place.near c.go_over.new.near _ c.in_ok-go_over.field-0 ordered c.gates-gates.ensures.value c.loop-place-test.true is c.loop-place.invariant c.in_ok-go_over.ensures w.in-Same.is w.end-is
      | in-Differs w ↦
          step_differs net c.args.readers.now gates c.args.i c.args.j c.args.inverted start c.loop-place.place c.loop-place.end c.match-branch-2.end signal c.loop-place.near c.go_over.new.near _ c.in_ok-go_over.field-0 w.span.result ordered c.graph-graph.ensures c.gates-gates.ensures.value c.loop-place-test.true is c.loop-place.invariant c.in_ok-go_over.ensures w.in-Differs.is w.span.ensures
          (w.end-is ∙ w.max-end-in-Differs.ensures)
    ]
