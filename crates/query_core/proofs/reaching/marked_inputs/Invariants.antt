-- The inputs so far are marked right.
use Rattle.query_core.proofs.ReachingLemmas.{AreDiffering}
use Rattle.query_core.proofs.reaching.marked_inputs.Given as goal

abbrev pub invariant-loop-input : goal.invariant-loop-input
invariant-loop-input l = AreDiffering l.left l.right l.signals l.input l.marked
