-- The operands of the gates so far were found.
use Rattle.std.proofs.Common.{◌-◌, length}
use Rattle.net_core.specs.Cones.{IsSearched}
use Rattle.net_core.proofs.cones.find_all.Given as goal

abbrev pub invariant-loop-next : goal.invariant-loop-next
invariant-loop-next l = IsSearched l.first l.gates l.signal l.next l.marks l.found.items

abbrev pub decreases-loop-next : goal.decreases-loop-next
decreases-loop-next l = length l.gates - l.next
