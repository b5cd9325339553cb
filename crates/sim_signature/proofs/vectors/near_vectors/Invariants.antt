-- There is a block for each bit so far.
use Rattle.std.proofs.Common.{◌≡◌, length}
use Rattle.sim_signature.proofs.vectors.near_vectors.Given as goal

abbrev pub invariant-loop-place : goal.invariant-loop-place
invariant-loop-place l = length l.blocks.items ≡ l.place
