use Rattle.refute_check.proofs.WalkLemmas.{IsNegated}
use Rattle.refute_check.proofs.propagation.negate.Given as goal

abbrev pub invariant-loop-literal : goal.invariant-loop-literal
invariant-loop-literal l = IsNegated l.fn.values l.values l.clause l.literal-index
