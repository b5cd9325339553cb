-- Where one of the lists isn't empty a step is left.
use Rattle.account_write.proofs.LineLemmas.{some_left}
use Rattle.account_write.proofs.lines.AccountLines.are_printed.Goals as goal

pub returns-clause-more : goal.returns-clause-more
returns-clause-more c =
    let left = c.args.self.now in
    some_left left.front.now left.log.now left.facts.now left.logs.now left.bans.now left.back.now c.is_empty.result c.is_empty-2.result c.is_empty-3.result c.is_empty-4.result c.is_empty-5.result c.is_empty-6.result
    c.is_empty.ensures c.is_empty-2.ensures c.is_empty-3.ensures c.is_empty-4.ensures c.is_empty-5.ensures c.is_empty-6.ensures
