-- The bits so far are those of the first blocks, changed.
use Rattle.std.proofs.Common.{◌≡◌, take}
use Rattle.sim_signature.specs.Changes.{changed}
use Rattle.sim_signature.specs.Blocks.{pattern}
use Rattle.sim_signature.proofs.signatures.vector_at.Given as goal

abbrev pub invariant-loop-i : goal.invariant-loop-i
invariant-loop-i l = l.vector ≡ take l.i (changed l.change (pattern l.inputs l.word l.lane))
