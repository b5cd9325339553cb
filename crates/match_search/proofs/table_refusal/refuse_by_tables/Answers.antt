use Rattle.match_search.proofs.SearchLemmas.{explores_none, explores_stop}
use Rattle.match_search.proofs.table_refusal.refuse_by_tables.Goals as goal

pub returns-in_err-plan-clause-explores : goal.returns-in_err-plan-clause-explores
returns-in_err-plan-clause-explores g c = explores_stop c.from_residual.ensures.1 c.requires.may

pub returns-in_default-clause-explores : goal.returns-in_default-clause-explores
returns-in_default-clause-explores g c = explores_none c.requires.may
