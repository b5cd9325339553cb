use Rattle.hier_blif.specs.Frames.{models_in, frame_left, steps_left, IsFlattening}
use Rattle.hier_blif.proofs.flattening.flatten_from.Given as goal

abbrev pub invariant-loop-frame : goal.invariant-loop-frame
invariant-loop-frame l = IsFlattening (models_in l.blocks) (frame_left (models_in l.blocks) l.fn.top) l.flattening

abbrev pub decreases-loop-frame : goal.decreases-loop-frame
decreases-loop-frame l = steps_left (models_in l.blocks) l.flattening.frames
