use Rattle.std.proofs.Common.{◌≡◌, map}
use Rattle.std.specs.List.{range_with_len}
use Rattle.account_trim.specs.Lowered.{left_out}
use Rattle.account_trim.proofs.lowering.all_left_out.Given as goal

abbrev pub invariant-loop-mark : goal.invariant-loop-mark
invariant-loop-mark l = (l.next ≡ left_out l.marks l.mark-index) × (l.counts ≡ map (left_out l.marks) (range_with_len 0 l.mark-index))
