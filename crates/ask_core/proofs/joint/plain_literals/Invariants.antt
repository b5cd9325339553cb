use Rattle.std.proofs.Common.{◌≡◌, length}
use Rattle.ask_core.proofs.joint.plain_literals.Given as goal

abbrev pub invariant-loop-signal : goal.invariant-loop-signal
invariant-loop-signal l = length l.literals.items ≡ l.signal
