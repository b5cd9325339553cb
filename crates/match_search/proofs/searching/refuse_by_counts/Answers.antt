use Rattle.match_search.proofs.StepLemmas.{on_any, same_asker}
use Rattle.match_search.proofs.searching.refuse_by_counts.Goals as goal

pub refuse-requires : goal.refuse-requires
refuse-requires g c = record { may = c.requires.may.may }

pub returns-clause-explores : goal.returns-clause-explores
returns-clause-explores g c = record { same = same_asker c.refuse.ensures.same; makes = c.refuse.ensures.makes; trials = on_any _ _ c.requires.may.trials }
