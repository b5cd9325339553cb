-- Since a record has one fault at most, it is named exactly.
use Rattle.account_check.proofs.FaultLemmas.{refused_exactly, taken_exactly, taken_told}
use Rattle.account_check.proofs.checker.Checker.record.Goals as goal

pub returns-clause-refused : goal.returns-clause-refused
returns-clause-refused c reject memory =
    let takes = c.take.ensures in
    (takes.refused reject, refused_exactly c.args.self.now c.args.entry.now c.take.result reject takes.refused takes.taken memory)

pub returns-clause-taken : goal.returns-clause-taken
returns-clause-taken c memory =
    let takes = c.take.ensures in
    (taken_told c.args.self.now c.args.entry.now c.take.result takes.taken, taken_exactly c.args.self.now c.args.entry.now c.take.result takes.refused memory)
