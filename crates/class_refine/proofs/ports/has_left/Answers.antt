use Rattle.std.proofs.Common.{arith, subst}
use Rattle.pair_domains.specs.Trails.{IsDeleted}
use Rattle.ban_book.specs.Ways.{nth_way}
use Rattle.pair_search.proofs.PortLemmas.{gone_more}
use Rattle.class_refine.proofs.ports.has_left.Goals as goal

pub loop-number-preserved : goal.loop-number-preserved
loop-number-preserved c = λ k below.
    let es = c.args.domains.now.entries in
    let port = c.args.port in
    gone_more es (nth_way port.side port.kind port.number) 0 c.loop-number.number (λ j past less. c.loop-number.invariant j less) (subst (IsDeleted es) c.way_of.ensures.value (c.remains.ensures.gone c.if-remains.false)) k (omega arith) below
