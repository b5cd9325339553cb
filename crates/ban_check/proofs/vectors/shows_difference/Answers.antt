-- The values that are sent, and where the partner is.
use Rattle.std.proofs.Common.{◌<◌, length, sym, subst, ap, ◌∙◌}
use Rattle.std.proofs.lemmas.List.FromFn.{length-map-range_with_len}
use Rattle.circuits.specs.Netlists.{Net}
use Rattle.net_core.specs.Sides.{Graphs}
use Rattle.account_core.specs.Vectors.{value_sent}
use Rattle.ban_check.proofs.PortLemmas.{partner_there}
use Rattle.ban_check.proofs.vectors.shows_difference.Goals as goal

pub tri-requires-2-clause-inputs : goal.tri-requires-2-clause-inputs
tri-requires-2-clause-inputs c =
    let sent = value_sent c.args.pairs.now c.args.values.now in
    let second = c.second.ensures.value ∙ ap (λ (graphs : Graphs). graphs.second) (c.graphs-graphs.ensures ∙ sym c.tri.ensures.same) in
    ap length (c.deref.ensures.value ∙ c.in_ok-sent.ensures) ∙ (length-map-range_with_len sent 0 c.inputs-2.result ∙ (c.inputs-2.ensures.value ∙ ap (λ (net : Net). net.inputs) second))

pub tri-requires-2-clause-output : goal.tri-requires-2-clause-output
tri-requires-2-clause-output c =
    let partner = partner_there c.args.evaluator.now c.args.pairs.now c.args.output c.in-Some.pair c.requires.known (sym c.pair_of.ensures ∙ c.in-Some.is) in
    subst (λ (graphs : Graphs). c.in-Some.pair.to < length graphs.second.outputs) (sym c.tri.ensures.same) partner
