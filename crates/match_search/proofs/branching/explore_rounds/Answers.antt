-- All pairs are open at first.
use Rattle.fact_bans.proofs.MakingLemmas.{made_same, makes_stop}
use Rattle.match_search.proofs.StepLemmas.{may_anew, never_ok, same_loans}
use Rattle.match_search.proofs.branching.explore_rounds.Goals as goal

pub returns-in_err-trail-clause-explores : goal.returns-in_err-trail-clause-explores
returns-in_err-trail-clause-explores g c = record {
  same = same_loans;
  makes = makes_stop _ _ _ _ _ _ _ _ c.from_residual.ensures.1 (made_same _ _ _ _ c.requires.may.may);
  trials = never_ok _ _ _ c.from_residual.ensures.1;
}

pub run_rounds-requires : goal.run_rounds-requires
run_rounds-requires g c = record { may = may_anew c.requires.may.may c.requires.may.trials (c.in_ok-trail.ensures.trail c.args.session.now.book.now) c.in_ok-trail.ensures.none }

pub returns-clause-explores : goal.returns-clause-explores
returns-clause-explores g c = record {
  same = c.run_rounds.ensures.steps.same;
  makes = c.run_rounds.ensures.steps.makes;
  trials = c.run_rounds.ensures.steps.trials;
}
