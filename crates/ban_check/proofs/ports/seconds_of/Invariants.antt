-- The ports so far, and those of the pairs that are left.
use Rattle.std.proofs.Common.{◌≡◌, ◌++◌, drop}
use Rattle.ban_check.specs.Seconds.{seconds_of}
use Rattle.ban_check.proofs.ports.seconds_of.Given as goal

abbrev pub invariant-loop-pair : goal.invariant-loop-pair
invariant-loop-pair l = l.ports.items ++ seconds_of l.kind (drop l.pair-index l.pairs) ≡ seconds_of l.kind l.pairs
