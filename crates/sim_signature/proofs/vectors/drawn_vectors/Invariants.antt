-- There are as many blocks.
use Rattle.std.proofs.Common.{◌≡◌, length}
use Rattle.sim_signature.proofs.vectors.drawn_vectors.Given as goal

abbrev pub invariant-loop : goal.invariant-loop
invariant-loop l = length l.blocks.items ≡ l.counter
