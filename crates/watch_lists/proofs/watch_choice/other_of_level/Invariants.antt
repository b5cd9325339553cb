use Rattle.std.proofs.Common.{All, take}
use Rattle.watch_lists.specs.Attachments.{IsElsewhere}
use Rattle.watch_lists.proofs.watch_choice.other_of_level.Given as goal

abbrev pub invariant-loop-literal : goal.invariant-loop-literal
invariant-loop-literal l = All (IsElsewhere l.trail l.first) (take l.literal-index l.clause)
