use Rattle.std.proofs.Common.{◌≡◌}
use Rattle.watch_lists.specs.Lists.{IsRoomier}
use Rattle.watch_lists.proofs.lists.Lists.make_room.Given as goal

abbrev pub invariant-loop-literal : goal.invariant-loop-literal
invariant-loop-literal l = IsRoomier l.fn.self.store l.self.store l.clause l.literal-index × (l.self.watches ≡ l.fn.self.watches)
