use Rattle.std.proofs.Common.{◌≡◌, ◌++◌, drop}
use Rattle.account_write.specs.Records.{pairs_from}
use Rattle.account_write.proofs.account.making.add_pairs.Given as goal

abbrev pub invariant-loop-from : goal.invariant-loop-from
invariant-loop-from l = l.pairs ++ pairs_from l.kind l.from (drop l.from l.goes) ≡ l.fn.pairs ++ pairs_from l.kind 0 l.goes
