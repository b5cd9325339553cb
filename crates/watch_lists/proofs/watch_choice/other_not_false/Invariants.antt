use Rattle.std.proofs.Common.{All, take}
use Rattle.trail_core.specs.Trails.{literals}
use Rattle.watch_lists.specs.WatchStates.{IsFalseOrOther}
use Rattle.watch_lists.proofs.watch_choice.other_not_false.Given as goal

abbrev pub invariant-loop-literal : goal.invariant-loop-literal
invariant-loop-literal l = All (IsFalseOrOther (literals l.trail.entries) l.other) (take l.literal-index l.clause)
