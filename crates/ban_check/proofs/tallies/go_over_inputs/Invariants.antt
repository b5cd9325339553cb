use Rattle.std.proofs.Common.{◌↔◌, drop}
use Rattle.account_core.specs.Tallies.{shapes_of}
use Rattle.ban_check.specs.Counted.{GoOverInputs}
use Rattle.ban_check.proofs.tallies.go_over_inputs.Given as goal

abbrev pub invariant-loop-number : goal.invariant-loop-number
invariant-loop-number l = GoOverInputs l.least (shapes_of l.given (drop l.number-index l.numbers)) ↔ GoOverInputs 0 (shapes_of l.given l.numbers)
