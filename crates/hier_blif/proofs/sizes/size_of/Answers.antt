use Rattle.std.proofs.Common.{◌<◌, length}
use Rattle.hier_blif.specs.Sizes.{IsSizeAt}
use Rattle.hier_blif.proofs.OrderLemmas.{line_there}
use Rattle.hier_blif.proofs.SizeLemmas.{counts_more}
use Rattle.hier_blif.proofs.sizes.size_of.Goals as goal

pub size_on-requires-clause-there : goal.size_on-requires-clause-there
size_on-requires-clause-there c =
    let sizes = c.args.sizes.now in
    line_there (λ q. q < length sizes) c.args.scope.now.models.now c.args.lines.now c.loop-line.line-index c.line-item.result c.loop-line-test.true c.line-item.is c.requires.there

pub size_on-requires-clause-sizes : goal.size_on-requires-clause-sizes
size_on-requires-clause-sizes c =
    let models = c.args.scope.now.models.now in
    line_there (IsSizeAt models c.args.sizes.now) models c.args.lines.now c.loop-line.line-index c.line-item.result c.loop-line-test.true c.line-item.is c.requires.sizes

pub loop-line-preserved : goal.loop-line-preserved
loop-line-preserved c =
    counts_more c.args.scope.now.models.now 1 c.args.lines.now c.loop-line.line-index c.line-item.result c.loop-line.size c.size_on.result c.with-size.result c.loop-line-test.true c.line-item.is c.with-size.ensures.instances c.with-size.ensures.covers c.loop-line.invariant c.size_on.ensures
