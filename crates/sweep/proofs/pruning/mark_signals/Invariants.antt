-- The signals of the literals so far are marked.
use Rattle.sweep.specs.Pruning.{AreMarked}
use Rattle.sweep.proofs.pruning.mark_signals.Given as goal

abbrev pub invariant-loop-literal : goal.invariant-loop-literal
invariant-loop-literal l = AreMarked l.literals l.literal-index l.fn.used l.used
