use Rattle.std.proofs.Common.{ap, ◌∙◌}
use Rattle.circuits.specs.Netlists.{Net}
use Rattle.account_core.specs.Ports.{ports_in}
use Rattle.ban_check.proofs.CoverLemmas.{names_there}
use Rattle.ban_check.proofs.covers.are_cover_names.Goals as goal

pub returns : goal.returns
returns c =
    names_there c.args.graphs.now c.args.given.now c.args.kind c.args.from.now c.args.to.now c.args.refs.now c.ports_in.result c.ports_in-2.result c.are_below.result c.are_below-2.result c.are_given.result (c.ports_in.ensures ∙ ap (λ (net : Net). ports_in net c.args.kind) c.first.ensures.value) (c.ports_in-2.ensures ∙ ap (λ (net : Net). ports_in net c.args.kind) c.second.ensures.value) c.are_below.ensures c.are_below-2.ensures c.are_given.ensures
