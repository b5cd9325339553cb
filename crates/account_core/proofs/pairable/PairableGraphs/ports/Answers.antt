-- The two have the same number of ports of each kind.
use Rattle.std.proofs.Common.{◌∙◌, ap}
use Rattle.circuits.specs.Netlists.{Net}
use Rattle.net_core.specs.Sides.{Graphs}
use Rattle.account_core.specs.Ports.{ports_in}
use Rattle.account_core.proofs.PortLemmas.{as_many}
use Rattle.account_core.proofs.pairable.PairableGraphs.ports.Goals as goal

pub returns-clause-second : goal.returns-clause-second
returns-clause-second c =
    c.ports_in.ensures
    ∙ (ap (λ (net : Net). ports_in net c.args.kind) c.first.ensures.value
    ∙ (as_many _ _ c.args.kind c.self.invariant ∙ ap (λ (two : Graphs). ports_in two.second c.args.kind) c.self.view_is))
