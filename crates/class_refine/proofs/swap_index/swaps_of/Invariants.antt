use Rattle.std.proofs.Common.{map}
use Rattle.account_core.specs.Given.{decided_by}
use Rattle.class_refine.specs.Swaps.{IsIndexOfFirst}
use Rattle.class_refine.proofs.swap_index.swaps_of.Given as goal

abbrev pub invariant-loop-number : goal.invariant-loop-number
invariant-loop-number l = IsIndexOfFirst (map decided_by l.facts) l.number l.swaps.entries
