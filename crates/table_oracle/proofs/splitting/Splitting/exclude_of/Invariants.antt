use Rattle.query_core.specs.Ledgers.{charging_of}
use Rattle.table_oracle.proofs.SplitLemmas.{IsSplitUpTo}
use Rattle.table_oracle.proofs.splitting.Splitting.exclude_of.Given as goal

abbrev pub invariant-loop-code : goal.invariant-loop-code
invariant-loop-code l = IsSplitUpTo l.self l.fn.lines.items l.lines.items (charging_of l.fn.ledger) (charging_of l.ledger) l.bits l.code
