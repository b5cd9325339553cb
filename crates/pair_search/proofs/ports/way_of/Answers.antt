use Rattle.std.proofs.Common.{sym, subst, ap, ◌∙◌}
use Rattle.account_core.specs.Tallies.{port_on}
use Rattle.pair_domains.specs.Trails.{IsPairOf}
use Rattle.ban_book.proofs.ClosedLemmas.{port_of_way}
use Rattle.pair_search.proofs.NamedLemmas.{way_known}
use Rattle.pair_search.proofs.ports.way_of.Goals as goal

pub returns-clause-known : goal.returns-clause-known
returns-clause-known c =
    let d = c.args.domains.now in
    let port = c.args.port in
    subst (IsPairOf d.inputs d.outputs) (sym c.nth_way.ensures) (way_known d.inputs d.outputs port.side port.kind port.number c.args.number c.requires.there c.requires.below)

pub returns-clause-port : goal.returns-clause-port
returns-clause-port c =
    let port = c.args.port in
    ap (port_on port.side) c.nth_way.ensures ∙ port_of_way port.side port.kind port.number c.args.number
