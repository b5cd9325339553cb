-- The last entry is written over.
use Rattle.std.proofs.Common.{◌-◌, arith}
use Rattle.query_core.proofs.LedgerLemmas.{written}
use Rattle.query_core.proofs.ledger.push_last.Goals as goal

pub returns-clause-pushed : goal.returns-clause-pushed
returns-clause-pushed c =
    written c.args.asked.now.items (c.len-last.result - 1) c.args.line.now c.index_mut.result.now c.push_line.new.entry (omega (arith, c.len-last.ensures, c.args.asked.now.ok.0)) c.requires c.index_mut.ensures.value c.in_ok-push_line.ensures.pushed
