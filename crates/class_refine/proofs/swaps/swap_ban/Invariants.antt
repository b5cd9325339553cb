use Rattle.std.proofs.Common.{ℕ, ◌<◌}
use Rattle.class_refine.specs.Rows.{decided}
use Rattle.class_refine.specs.Swaps.{AgreesAt}
use Rattle.class_refine.proofs.swaps.swap_ban.Given as goal

abbrev pub invariant-loop-number : goal.invariant-loop-number
invariant-loop-number l = (k : ℕ) → k < l.number → AgreesAt (decided l.grounds) l.pairs k
