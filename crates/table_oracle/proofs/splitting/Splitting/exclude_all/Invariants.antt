use Rattle.query_core.specs.Ledgers.{charging_of}
use Rattle.table_oracle.proofs.SplitLemmas.{IsSplitTo}
use Rattle.table_oracle.proofs.splitting.Splitting.exclude_all.Given as goal

abbrev pub invariant-loop-bits : goal.invariant-loop-bits
invariant-loop-bits l = IsSplitTo l.self l.fn.lines.items l.lines.items (charging_of l.fn.ledger) (charging_of l.ledger) l.bits

abbrev pub decreases-loop-bits : goal.decreases-loop-bits
decreases-loop-bits l = l.bits
