use Rattle.refute_check.proofs.ValueLemmas.{IsUnsetting}
use Rattle.refute_check.proofs.values.unset.Given as goal

abbrev pub invariant-loop-literal : goal.invariant-loop-literal
invariant-loop-literal l = IsUnsetting l.fn.bits l.bits l.made l.literal-index
