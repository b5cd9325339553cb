use Rattle.std.proofs.Common.{take}
use Rattle.hier_blif.specs.Order.{callees, Explores}
use Rattle.hier_blif.proofs.order.ModelSearch.explore_all.Given as goal

abbrev pub invariant-loop-line : goal.invariant-loop-line
invariant-loop-line l =
    Explores l.scope.models.now (callees l.scope.models.now (take l.line-index l.lines)) l.fn.self l.self
