use Rattle.std.proofs.Common.{take}
use Rattle.class_refine.specs.Rows.{ShowNothingAt, decided}
use Rattle.class_refine.proofs.shown.ban_of_assigned.Given as goal

abbrev pub invariant-loop-pair : goal.invariant-loop-pair
invariant-loop-pair l = ShowNothingAt l.grounds.graphs.now (decided l.grounds) l.inputs (take l.pair-index l.assigned)
