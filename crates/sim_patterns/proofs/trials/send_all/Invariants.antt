use Rattle.std.proofs.Common.{◌≡◌, length}
use Rattle.sim_patterns.proofs.trials.send_all.Given as goal

abbrev pub invariant-loop-pair : goal.invariant-loop-pair
invariant-loop-pair l = length l.sent ≡ length l.fn.sent
