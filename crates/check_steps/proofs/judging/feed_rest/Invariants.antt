use Rattle.check_steps.proofs.JudgingLemmas.{IsFeeding}
use Rattle.check_steps.proofs.judging.feed_rest.Given as goal

abbrev pub invariant-loop-left : goal.invariant-loop-left
invariant-loop-left g l =
    IsFeeding g.S.Shelf.tells (g.S.Shelf.state l.fn.shelf) (g.S.Shelf.state l.shelf) l.fn.check l.check l.fn.size l.left

abbrev pub decreases-loop-left : goal.decreases-loop-left
decreases-loop-left g l = l.left
