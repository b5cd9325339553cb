use Rattle.std.proofs.Common.{subst}
use Rattle.pair_domains.specs.Trails.{IsDeleted}
use Rattle.ban_book.specs.Ways.{nth_way}
use Rattle.pair_search.proofs.PortLemmas.{gone_more}
use Rattle.pair_search.proofs.ports.remaining.Goals as goal

pub loop-number-preserved : goal.loop-number-preserved
loop-number-preserved c =
    let port = c.args.port in
    let es = c.args.domains.now.entries in
    gone_more es (nth_way port.side port.kind port.number) c.args.from c.loop-number.number c.loop-number.invariant (subst (IsDeleted es) c.way_of.ensures.value (c.remains.ensures.gone c.if-remains.false))
