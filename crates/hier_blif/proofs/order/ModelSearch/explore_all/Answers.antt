use Rattle.std.proofs.Common.{take, length, ◌<◌}
use Rattle.hier_blif.specs.Names.{instances_on}
use Rattle.hier_blif.proofs.StopLemmas.{stop_passed}
use Rattle.hier_blif.proofs.OrderLemmas.{line_there, lines_deep, among_first, explores_line}
use Rattle.hier_blif.proofs.order.ModelSearch.explore_all.Goals as goal

pub explore_line-requires-clause-there : goal.explore_line-requires-clause-there
explore_line-requires-clause-there c =
    let models = c.args.scope.now.models.now in
    line_there (λ q. q < length models) models c.args.lines.now c.loop-line.line-index c.line-item.result c.loop-line-test.true c.line-item.is c.requires.there

pub returns-in_err-explore_line-clause-fault : goal.returns-in_err-explore_line-clause-fault
returns-in_err-explore_line-clause-fault c =
    let models = c.args.scope.now.models.now in
    let lines = c.args.lines.now in
    let k = c.loop-line.line-index in
    let deep = lines_deep models c.loop-line.self.order.items (take k lines) c.loop-line.invariant.ready.knows.listing c.loop-line.invariant.listed in
    stop_passed c.explore_line.result _ _ _ _ c.in_err-explore_line.was c.from_residual.ensures.1 c.explore_line.ensures.fault (λ fault. among_first models instances_on lines k c.line-item.result fault c.loop-line-test.true c.line-item.is deep)

pub loop-line-preserved : goal.loop-line-preserved
loop-line-preserved c =
    explores_line c.args.scope.now.models.now c.args.lines.now c.loop-line.line-index c.line-item.result c.args.self.now c.loop-line.self c.explore_line.new.self c.loop-line-test.true c.line-item.is c.loop-line.invariant c.in_ok-explore_line.ensures.listed
