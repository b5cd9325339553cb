-- A line is charged to the last entry, or refused.
use Rattle.query_core.proofs.ChargingLemmas.{call_charged, call_refused}
use Rattle.query_core.proofs.ledger.LedgerCharge.charge.Goals as goal

pub returns-clause-charged : goal.returns-clause-charged
returns-clause-charged c =
    let done = c.charge.ensures in
    call_charged c.args.self.now c.charge.new.self c.args.line.now c.charge.result c.requires.opened c.requires.not_spent done.within done.counted done.charged

pub returns-clause-refused : goal.returns-clause-refused
returns-clause-refused c =
    call_refused c.args.self.now c.charge.new.self c.args.line.now c.charge.result c.requires.opened c.requires.not_spent c.charge.ensures.refused
