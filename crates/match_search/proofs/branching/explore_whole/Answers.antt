-- All pairs are open at first, and the search goes on until something is found.
use Rattle.std.proofs.Common.{refl}
use Rattle.match_search.proofs.SearchLemmas.{searches_stop, searching_start}
use Rattle.match_search.proofs.StepLemmas.{may_anew, same_loans}
use Rattle.match_search.proofs.branching.explore_whole.Goals as goal

pub returns-in_err-trail-clause-searches : goal.returns-in_err-trail-clause-searches
returns-in_err-trail-clause-searches g c =
    record { same = same_loans; searches = searches_stop c.from_residual.ensures.1 (searching_start c.requires.may).served c.requires.may.may.valid }

pub explore_round-requires : goal.explore_round-requires
explore_round-requires g c = record { may = may_anew c.requires.may.may c.requires.may.trials (c.in_ok-trail.ensures.trail c.args.session.now.book.now) c.in_ok-trail.ensures.none }

pub unreachable-requires : goal.unreachable-requires
unreachable-requires g c = rw c.in-None.is at (c.in_ok-found.ensures.ends refl)
