use Rattle.match_search.proofs.table_refusal.decide_next.Goals as goal

pub returns-in-Some-2-clause-ahead : goal.returns-in-Some-2-clause-ahead
returns-in-Some-2-clause-ahead c = rw c.in-Some-2.is at c.in_ok-branch.ensures.conflict
