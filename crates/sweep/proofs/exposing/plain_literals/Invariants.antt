-- The literals of the signals so far are listed.
use Rattle.std.proofs.Common.{◌≡◌, map}
use Rattle.std.specs.List.{range_with_len}
use Rattle.circuits.specs.Literals.{plain_literal}
use Rattle.sweep.proofs.exposing.plain_literals.Given as goal

abbrev pub invariant-loop-signal : goal.invariant-loop-signal
invariant-loop-signal l = l.literals.items ≡ map plain_literal (range_with_len 0 l.signal)
