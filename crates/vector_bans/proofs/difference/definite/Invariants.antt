use Rattle.std.proofs.Common.{◌≡◌, ◌++◌, drop, map}
use Rattle.vector_bans.proofs.difference.definite.Given as goal
use Rattle.word_sim.specs.ThreeValues.{of_bit}

abbrev pub invariant-loop-place : goal.invariant-loop-place
invariant-loop-place l = l.values ++ map of_bit (drop l.place l.vector) ≡ map of_bit l.vector
