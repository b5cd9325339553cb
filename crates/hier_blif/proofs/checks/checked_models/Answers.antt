use Rattle.std.proofs.Common.{sym, subst, ◌∙◌}
use Rattle.hier_blif.specs.Order.{AreThere}
use Rattle.hier_blif.specs.Limits.{HasFewPorts}
use Rattle.hier_blif.proofs.StopLemmas.{stop_passed}
use Rattle.hier_blif.proofs.CheckLemmas.{all_there, sized_as, top_small, top_big, top_lines, ports_many}
use Rattle.hier_blif.proofs.checks.checked_models.Goals as goal

pub order_models-requires-clause-there : goal.order_models-requires-clause-there
order_models-requires-clause-there c =
    subst AreThere (sym c.in_ok-scope.ensures.scope.0) (all_there c.args.models.now c.in_ok-scope.ensures.names)

pub returns-then-is_too_big-clause-fault : goal.returns-then-is_too_big-clause-fault
returns-then-is_too_big-clause-fault c =
    let models = c.args.models.now in
    let sized = sized_as models c.in_ok-scope.scope.models.now c.in_ok-order.order.items c.in_ok-sizes.sizes.items c.in_ok-scope.ensures.scope.0 c.in_ok-scope.ensures.names c.in_ok-order.ensures.deep c.in_ok-order.ensures.order c.in_ok-sizes.ensures in
    let big = sym c.is_too_big.ensures ∙ c.if-is_too_big.true in
    top_big c.args.end models c.in_ok-order.order.items c.in_ok-sizes.sizes.items c.index.result.now c.fault_at.result c.requires.top sized c.index.ensures big c.fault_at.ensures

pub returns-clause-checked : goal.returns-clause-checked
returns-clause-checked c =
    let models = c.args.models.now in
    let sized = sized_as models c.in_ok-scope.scope.models.now c.in_ok-order.order.items c.in_ok-sizes.sizes.items c.in_ok-scope.ensures.scope.0 c.in_ok-scope.ensures.names c.in_ok-order.ensures.deep c.in_ok-order.ensures.order c.in_ok-sizes.ensures in
    let few = sym c.is_too_big.ensures ∙ c.if-is_too_big.false in
    let small = top_small models c.in_ok-order.order.items c.in_ok-sizes.sizes.items c.index.result.now c.requires.top sized c.index.ensures few in
    let same = top_lines models c.index-models-0.result c.deref-2.result.now c.requires.top c.deref-2.ensures.value in
    record {
      are = record { small = small; few = subst HasFewPorts same c.in_ok-check_limits.ensures.few };
      same = c.in_ok-scope.ensures.scope.0;
      scope = c.in_ok-scope.ensures.scope.1;
      order = sized.order_is;
      sizes = sized.sizes_are;
    }

pub returns-in_err-check_limits-clause-fault : goal.returns-in_err-check_limits-clause-fault
returns-in_err-check_limits-clause-fault c =
    let models = c.args.models.now in
    let sized = sized_as models c.in_ok-scope.scope.models.now c.in_ok-order.order.items c.in_ok-sizes.sizes.items c.in_ok-scope.ensures.scope.0 c.in_ok-scope.ensures.names c.in_ok-order.ensures.deep c.in_ok-order.ensures.order c.in_ok-sizes.ensures in
    let few = sym c.is_too_big.ensures ∙ c.if-is_too_big.false in
    let small = top_small models c.in_ok-order.order.items c.in_ok-sizes.sizes.items c.index.result.now c.requires.top sized c.index.ensures few in
    let lines = c.deref-2.result.now in
    let same = top_lines models c.index-models-0.result lines c.requires.top c.deref-2.ensures.value in
    stop_passed c.check_limits.result _ _ _ _ c.in_err-check_limits.was c.from_residual-in_err-check_limits.ensures.1 c.check_limits.ensures.fault (λ fault many. ports_many c.args.end models lines fault same small many)
