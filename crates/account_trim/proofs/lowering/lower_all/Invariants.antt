use Rattle.std.proofs.Common.{◌≡◌, ◌++◌, drop, map, take}
use Rattle.account_trim.specs.Lowered.{lowered}
use Rattle.account_trim.proofs.lowering.lower_all.Given as goal

abbrev pub invariant-loop-place : goal.invariant-loop-place
invariant-loop-place l = l.numbers ≡ map (lowered l.counts) (take l.place l.fn.numbers) ++ drop l.place l.fn.numbers
