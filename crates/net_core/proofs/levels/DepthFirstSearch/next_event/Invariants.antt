-- The names so far were looked at.
use Rattle.std.proofs.Common.{◌+◌, ◌*◌, ◌≤◌, length, take}
use Rattle.circuits.specs.Circuits.{names_of}
use Rattle.circuits.specs.Levels.{HaveLevel}
use Rattle.net_core.specs.Search.{left, positions}
use Rattle.net_core.proofs.levels.DepthFirstSearch.next_event.Given as goal

abbrev pub invariant-loop-next : goal.invariant-loop-next
invariant-loop-next l = record {
  have : HaveLevel l.net (take l.next (names_of l.net l.frame.position)) l.highest;
  few : l.highest + left l.self.visits.items (positions l.self.stack.items) ≤ 2 * length l.net.defs;
}
