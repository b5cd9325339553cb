use Rattle.check_steps.proofs.Reading.{IsUnderWay}
use Rattle.check_steps.proofs.files.read_rest.Given as goal

abbrev pub invariant-loop-left : goal.invariant-loop-left
invariant-loop-left g l =
    IsUnderWay g.S.Shelf.tells (g.S.Shelf.state l.fn.shelf) (g.S.Shelf.state l.shelf) l.bytes.items l.fn.size l.left

abbrev pub decreases-loop-left : goal.decreases-loop-left
decreases-loop-left g l = l.left
