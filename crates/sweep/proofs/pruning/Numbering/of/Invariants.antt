-- The signals so far are numbered.
use Rattle.sweep.specs.Pruning.{AreNumbered}
use Rattle.sweep.proofs.pruning.Numbering.of.Given as goal

abbrev pub invariant-loop-signal : goal.invariant-loop-signal
invariant-loop-signal l = AreNumbered l.graph l.signal l.numbering.origins.items l.numbering.numbers.items
