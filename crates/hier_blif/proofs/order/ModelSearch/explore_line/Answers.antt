use Rattle.hier_blif.specs.Names.{instances_on}
use Rattle.hier_blif.specs.Order.{IsRecursionAt, IsRecursionAmong}
use Rattle.hier_blif.proofs.OrderLemmas.{err_as, among_one}
use Rattle.hier_blif.proofs.order.ModelSearch.explore_line.Goals as goal

pub returns-in-Instance-clause-fault : goal.returns-in-Instance-clause-fault
returns-in-Instance-clause-fault c =
    let models = c.args.scope.now.models.now in
    let line = c.in-Instance.instance in
    err_as c.explore.result (IsRecursionAt models line) (IsRecursionAmong models (instances_on c.args.line.now)) (λ fault at. among_one models c.args.line.now line fault c.in-Instance.is at) c.explore.ensures.fault
