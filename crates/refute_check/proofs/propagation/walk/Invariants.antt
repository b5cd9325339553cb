use Rattle.std.proofs.Common.{◌++◌, length}
use Rattle.refute_check.proofs.WalkLemmas.{IsWalked}
use Rattle.refute_check.proofs.propagation.walk.Given as goal

abbrev pub invariant-loop-left : goal.invariant-loop-left
invariant-loop-left g l =
    IsWalked ((g.B.Base.formula l.base).clauses ++ l.taken.clauses) l.fn.values l.values l.hints l.left

abbrev pub decreases-loop-left : goal.decreases-loop-left
decreases-loop-left g l = length l.left
