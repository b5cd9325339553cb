-- All pairs are open at first.
use Rattle.match_search.proofs.StepLemmas.{may_anew}
use Rattle.match_search.proofs.SearchLemmas.{explores_steps, explores_stop}
use Rattle.match_search.proofs.table_refusal.explore_tables.Goals as goal

pub returns-in_err-trail-clause-explores : goal.returns-in_err-trail-clause-explores
returns-in_err-trail-clause-explores g c = explores_stop c.from_residual.ensures.1 c.requires.may

pub take_turns-requires : goal.take_turns-requires
take_turns-requires g c = record { may = may_anew c.requires.may.may c.requires.may.trials (c.in_ok-trail.ensures.trail c.args.session.now.book.now) c.in_ok-trail.ensures.none }

pub returns-clause-explores : goal.returns-clause-explores
returns-clause-explores g c = explores_steps c.take_turns.ensures.steps
