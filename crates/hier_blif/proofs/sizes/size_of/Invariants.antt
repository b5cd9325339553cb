use Rattle.std.proofs.Common.{take}
use Rattle.hier_blif.specs.Sizes.{Counts}
use Rattle.hier_blif.proofs.sizes.size_of.Given as goal

abbrev pub invariant-loop-line : goal.invariant-loop-line
invariant-loop-line l = Counts l.scope.models.now 1 (take l.line-index l.lines) l.size
