-- the records from a place on had their turn
use Rattle.std.proofs.Common.{◌≤◌, length}
use Rattle.account_trim.proofs.ReachLemmas.{IsMarking}
use Rattle.account_trim.proofs.reaching.reached.Given as goal

abbrev pub invariant-loop-left : goal.invariant-loop-left
invariant-loop-left l = (l.left ≤ length l.links) × IsMarking l.links l.left l.marks.items

abbrev pub decreases-loop-left : goal.decreases-loop-left
decreases-loop-left l = l.left
