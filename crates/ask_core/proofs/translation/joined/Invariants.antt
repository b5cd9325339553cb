-- The lines so far.
use Rattle.std.proofs.Common.{◌≡◌, ◌++◌}
use Rattle.ask_core.proofs.translation.joined.Given as goal

abbrev pub invariant-loop-line : goal.invariant-loop-line
invariant-loop-line l = l.whole.items ≡ l.lemmas ++ l.yielded
