-- The gates so far are what they were.
use Rattle.sweep.specs.Pruning.{AreGatesOf}
use Rattle.sweep.proofs.pruning.Numbering.gates.Given as goal

abbrev pub invariant-loop-signal : goal.invariant-loop-signal
invariant-loop-signal l = AreGatesOf l.graph l.self.origins.items l.signal-index l.gates.items
