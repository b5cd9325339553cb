use Rattle.std.proofs.Common.{◌≡◌, ◌++◌, drop, map}
use Rattle.account_check.specs.Conclusions.{entry_of}
use Rattle.account_check.proofs.pairs.entries.Given as goal

abbrev pub invariant-loop-pair : goal.invariant-loop-pair
invariant-loop-pair l = l.entries ++ map entry_of (drop l.pair-index l.pairs) ≡ map entry_of l.pairs
