-- There are no more classes than signals.
use Rattle.std.proofs.Common.{◌≤◌}
use Rattle.sweep.proofs.classes.count_of.Given as goal

abbrev pub invariant-loop-signal : goal.invariant-loop-signal
invariant-loop-signal l = l.count ≤ l.signal
