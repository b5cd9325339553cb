-- The signals so far are chained.
use Rattle.sweep.specs.Leaders.{AreChained}
use Rattle.sweep.proofs.leaders.Leaders.of.Given as goal

abbrev pub invariant-loop-signal : goal.invariant-loop-signal
invariant-loop-signal l = AreChained l.members l.replacements l.signal l.leaders.last.items l.leaders.before.items
