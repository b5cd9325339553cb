-- The graph is in order.
use Rattle.std.proofs.Common.{◌≡◌, ◌∙◌, ℕ, length, map, sym, ap, subst, arith}
use Rattle.std.specs.List.{range_with_len}
use Rattle.std.proofs.lemmas.Bool.{false≢true}
use Rattle.std.proofs.lemmas.List.FromFn.{length-map-range_with_len}
use Rattle.circuits.specs.Literals.{plain_literal}
use Rattle.circuits.specs.Netlists.{Net, IsOrdered}
use Rattle.sweep.specs.Exposed.{exposed}
use Rattle.sweep.proofs.ExposedLemmas.{exposed_ordered}
use Rattle.sweep.proofs.exposing.exposed.Goals as goal

pub new-requires-clause-outputs : goal.new-requires-clause-outputs
new-requires-clause-outputs c =
    omega (arith, c.in_ok-outputs.outputs.ok.0, ap length c.in_ok-outputs.ensures, length-map-range_with_len plain_literal 0 c.signals.result, c.signals.ensures.value, c.signals.ensures.graph.signals)

pub unreachable-requires : goal.unreachable-requires
unreachable-requires c =
    let net = c.args.graph.now in
    let gates = c.in_ok-gates.ensures.items ∙ c.gates.ensures.value in
    let outputs = c.in_ok-outputs.ensures ∙ ap (λ (n : ℕ). map plain_literal (range_with_len 0 n)) c.signals.ensures.value in
    let made : Net = record { inputs = c.inputs.result; gates = c.in_ok-gates.gates.items; outputs = c.in_ok-outputs.outputs.items } in
    let is : made ≡ exposed net = λ i. record { inputs = c.inputs.ensures.value i; gates = gates i; outputs = outputs i } in
    false≢true (c.in-None.ensures.ordered.1 (subst IsOrdered (sym is) (exposed_ordered net c.signals.ensures.graph.ordered)))
