use Rattle.std.proofs.Common.{◌≡◌}
use Rattle.account_tests.proofs.records.drain.Given as goal

abbrev pub invariant-loop : goal.invariant-loop
invariant-loop l = (l.reader.finished ≡ l.fn.reader.finished) × (l.reader.total ≡ l.fn.reader.total)
