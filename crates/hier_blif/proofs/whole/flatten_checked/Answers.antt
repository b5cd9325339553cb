use Rattle.std.proofs.Common.{◌≡◌, IfOk, length, sym, subst, arith}
use Rattle.hier_blif.specs.Order.{IsBottomUp}
use Rattle.hier_blif.specs.Sizes.{AreSizes}
use Rattle.hier_blif.specs.Drivers.{AreDrivers}
use Rattle.hier_blif.specs.Frames.{IsTop, IsFlatOf}
use Rattle.hier_blif.proofs.WholeLemmas.{top_is, top_within}
use Rattle.hier_blif.proofs.whole.flatten_checked.Goals as goal

pub drivers_of-requires-clause-named : goal.drivers_of-requires-clause-named
drivers_of-requires-clause-named c = c.requires.checked.are.small.checked.named

pub drivers_of-requires-clause-order : goal.drivers_of-requires-clause-order
drivers_of-requires-clause-order c =
    subst (IsBottomUp c.args.checked.now.scope.models.now) (sym c.deref.ensures.value) c.requires.checked.order

pub drivers_of-requires-clause-sizes : goal.drivers_of-requires-clause-sizes
drivers_of-requires-clause-sizes c =
    subst (AreSizes c.args.checked.now.scope.models.now) (sym c.deref-2.ensures.value) c.requires.checked.sizes

pub flatten-requires-clause-blocks : goal.flatten-requires-clause-blocks
flatten-requires-clause-blocks c =
    let models = c.args.checked.now.scope.models.now in
    record {
      scope = c.requires.checked.scope;
      named = c.requires.checked.are.small.checked.named;
      sizes = subst (AreSizes models) (sym c.deref-3.ensures.value) c.requires.checked.sizes;
      drivers = subst (AreDrivers models) (sym c.deref-4.ensures.value) c.in_ok-drivers.ensures;
    }

pub flatten-requires-clause-top : goal.flatten-requires-clause-top
flatten-requires-clause-top c =
    let checked = c.args.checked.now in
    let models = checked.scope.models.now in
    let order = checked.order.items in
    let long : c.len.result ≡ length order = omega (arith, c.len.ensures, checked.order.ok.0) in
    subst (IsTop models) (sym long) (top_is models (length order) c.requires.some c.requires.checked.are (top_within models order c.requires.some c.requires.checked.order))

pub returns : goal.returns
returns c =
    let checked = c.args.checked.now in
    let models = checked.scope.models.now in
    let long : c.len.result ≡ length checked.order.items = omega (arith, c.len.ensures, checked.order.ok.0) in
    subst (λ depth. IfOk c.flatten.result (IsFlatOf models depth)) long c.flatten.ensures
