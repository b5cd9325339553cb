use Rattle.std.proofs.Common.{◌≡◌, length}
use Rattle.cube_tables.proofs.cone.send_all.Given as goal

abbrev pub invariant-loop-place : goal.invariant-loop-place
invariant-loop-place l = length l.sent ≡ length l.fn.sent
