use Rattle.std.proofs.Common.{◌<◌, length, sym, subst}
use Rattle.hier_blif.specs.Order.{IsUnderWay}
use Rattle.hier_blif.proofs.OrderLemmas.{way_start, grows_same}
use Rattle.hier_blif.proofs.order.ModelSearch.explore.Goals as goal

pub loop-self-init : goal.loop-self-init
loop-self-init c =
    let models = c.args.scope.now.models.now in
    let place = c.place_of-place.result in
    let there = subst (λ n. n < length models) (sym c.place_of-place.ensures) c.requires.there in
    let h = c.in_ok-enter.ensures in
    let new = c.enter.new.self in
    (subst (λ n. IsUnderWay models n new) c.place_of-place.ensures (way_start models place c.args.self.now new there h.visits h.stack h.looked h.order c.requires.ready), grows_same c.args.self.now.order.items new.order.items h.order)
