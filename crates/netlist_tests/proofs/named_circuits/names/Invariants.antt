-- As many names as texts so far.
use Rattle.std.proofs.Common.{◌≡◌, length}
use Rattle.netlist_tests.proofs.named_circuits.names.Given as goal

abbrev pub invariant-loop-text : goal.invariant-loop-text
invariant-loop-text l = length l.names ≡ l.text-index
