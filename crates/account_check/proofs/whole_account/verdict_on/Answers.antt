use Rattle.account_check.proofs.whole_account.verdict_on.Goals as goal

pub returns-clause-proved : goal.returns-clause-proved
returns-clause-proved c matching is = c.verdict_by.ensures.proved c.args.graphs.now matching c.in_ok-check.ensures is
