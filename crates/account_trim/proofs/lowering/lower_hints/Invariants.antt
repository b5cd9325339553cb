use Rattle.std.proofs.Common.{◌≡◌, ◌++◌, drop, map, take}
use Rattle.account_trim.specs.Lowered.{lowered_hint}
use Rattle.account_trim.proofs.lowering.lower_hints.Given as goal

abbrev pub invariant-loop-place : goal.invariant-loop-place
invariant-loop-place l = l.hints ≡ map (lowered_hint l.counts l.link) (take l.place l.fn.hints) ++ drop l.place l.fn.hints
