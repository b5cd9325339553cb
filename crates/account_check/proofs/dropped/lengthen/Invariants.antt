use Rattle.std.proofs.Common.{◌+◌, ◌-◌, length}
use Rattle.account_check.proofs.DropLemmas.{IsLengthened}
use Rattle.account_check.proofs.dropped.lengthen.Given as goal

abbrev pub invariant-loop-marks : goal.invariant-loop-marks
invariant-loop-marks l = IsLengthened l.fn.marks l.marks l.fn.number

abbrev pub decreases-loop-marks : goal.decreases-loop-marks
decreases-loop-marks l = (l.fn.number + 1) - length l.marks
