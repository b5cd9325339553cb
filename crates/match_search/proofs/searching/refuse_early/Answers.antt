use Rattle.match_search.proofs.SearchLemmas.{explored_may, explores_err, explores_last, explores_ok}
use Rattle.match_search.proofs.searching.refuse_early.Goals as goal

pub returns-in_err-ban-clause-explores : goal.returns-in_err-ban-clause-explores
returns-in_err-ban-clause-explores g c = explores_err c.from_residual.ensures.1 c.requires.may c.in_err-ban.ensures.explores

pub returns-in-Some-clause-explores : goal.returns-in-Some-clause-explores
returns-in-Some-clause-explores g c = explores_ok c.in_ok-ban.ensures.explores

pub refuse_by_tables-requires : goal.refuse_by_tables-requires
refuse_by_tables-requires g c = record { may = explored_may c.requires.may c.in_ok-ban.ensures.explores }

pub returns-clause-explores : goal.returns-clause-explores
returns-clause-explores g c = explores_last c.in_ok-ban.ensures.explores c.refuse_by_tables.ensures.explores
