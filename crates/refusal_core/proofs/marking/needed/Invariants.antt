use Rattle.std.proofs.Common.{◌+◌, ◌≤◌}
use Rattle.refusal_core.proofs.NeededLemmas.{IsMarking}
use Rattle.refusal_core.proofs.marking.needed.Given as goal

-- the bans from a place on had their turn
abbrev pub invariant-loop-left : goal.invariant-loop-left
invariant-loop-left l = (l.left ≤ l.number + 1) × IsMarking l.bans l.facts l.number l.left l.marks

abbrev pub decreases-loop-left : goal.decreases-loop-left
decreases-loop-left l = l.left
