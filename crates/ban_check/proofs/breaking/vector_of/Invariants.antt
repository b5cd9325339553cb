use Rattle.std.proofs.Common.{◌≡◌, take}
use Rattle.ban_check.proofs.breaking.vector_of.Given as goal

abbrev pub invariant-loop-place : goal.invariant-loop-place
invariant-loop-place l = l.vector ≡ take l.place l.bits
