-- The graph is in order.
use Rattle.std.proofs.Common.{◌≡◌, ◌∙◌, map, sym, ap, subst}
use Rattle.std.proofs.lemmas.Bool.{false≢true}
use Rattle.circuits.specs.Netlists.{Net, IsOrdered}
use Rattle.sweep.specs.Merging.{merged, replaced, replaced_gate}
use Rattle.sweep.proofs.PrunedLemmas.{merged_ordered}
use Rattle.sweep.proofs.merging.merged.Goals as goal

pub unreachable-requires : goal.unreachable-requires
unreachable-requires c =
    let net = c.args.graph.now in
    let replacements = c.args.replacements.now in
    let gates = c.in_ok-gates.ensures ∙ ap (map (replaced_gate replacements)) c.gates.ensures.value in
    let outputs = c.in_ok-outputs.ensures ∙ ap (map (replaced replacements)) c.outputs.ensures.value in
    let made : Net = record { inputs = c.inputs.result; gates = c.in_ok-gates.gates.items; outputs = c.in_ok-outputs.outputs.items } in
    let is : made ≡ merged replacements net = λ i. record { inputs = c.inputs.ensures.value i; gates = gates i; outputs = outputs i } in
    false≢true (c.in-None.ensures.ordered.1 (subst IsOrdered (sym is) (merged_ordered net replacements c.requires c.gates.ensures.graph.ordered)))
