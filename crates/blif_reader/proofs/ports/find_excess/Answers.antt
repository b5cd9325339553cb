use Rattle.std.proofs.Common.{◌≡◌, rules, sym, ◌∙◌}
use Rattle.blif_reader.proofs.NumberLemmas.{at_place, excess}
use Rattle.blif_reader.proofs.ports.find_excess.Goals as goal

pub returns-then-count-eq-MAX_PORTS : goal.returns-then-count-eq-MAX_PORTS
returns-then-count-eq-MAX_PORTS c =
    let ports = c.args.ports.now in
    let port = c.port-item.result in
    let same : port.kind ≡ c.args.kind = search rules in
    let here = at_place ports c.loop-port.port-index port c.loop-port-test.true c.port-item.is in
    excess c.args.kind ports c.loop-port.port-index port c.at.result c.loop-port-test.true here same (sym c.loop-port.invariant.0 ∙ c.if-count-eq-MAX_PORTS.true) c.at.ensures.value
