use Rattle.pair_search.proofs.ResolveLemmas.{ArePassed}
use Rattle.pair_search.proofs.resolution.last_of.Given as goal

abbrev pub invariant-loop-left : goal.invariant-loop-left
invariant-loop-left l = ArePassed l.assigned l.pairs l.left l.limit

abbrev pub decreases-loop-left : goal.decreases-loop-left
decreases-loop-left l = l.left
