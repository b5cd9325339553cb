use Rattle.std.proofs.Common.{◌↔◌, length}
use Rattle.account_core.specs.Tallies.{shapes_of}
use Rattle.ban_check.specs.Counted.{GoOverTwice}
use Rattle.ban_check.proofs.tallies.go_over_twice.Given as goal

abbrev pub invariant-loop-left : goal.invariant-loop-left
invariant-loop-left l = GoOverTwice l.least (shapes_of l.given l.left) ↔ GoOverTwice 0 (shapes_of l.given l.numbers)

abbrev pub decreases-loop-left : goal.decreases-loop-left
decreases-loop-left l = length l.left
