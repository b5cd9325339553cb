-- Counts refuse a match; else the search begins again and again with no bans, and then goes on without a bound.
use Rattle.match_search.proofs.SearchLemmas.{may_search_on, none_valid, search_failed, search_found, search_last, searching_more, searching_start}
use Rattle.match_search.proofs.StepLemmas.{same_loans, same_then}
use Rattle.match_search.proofs.searching.refuse_or_explore.Goals as goal

pub returns-in_err-ban-clause-searches : goal.returns-in_err-ban-clause-searches
returns-in_err-ban-clause-searches g c = search_failed c.from_residual.ensures.1 (searching_start c.requires.may) c.in_err-ban.ensures.explores

pub returns-in-Some-clause-searches : goal.returns-in-Some-clause-searches
returns-in-Some-clause-searches g c = search_found (searching_more (searching_start c.requires.may) c.in_ok-ban.ensures.explores) (rw c.in-Some.is at c.in_ok-ban.ensures.empty)

pub loop-time-init : goal.loop-time-init
loop-time-init g c = searching_more (searching_start c.requires.may) c.in_ok-ban.ensures.explores

pub explore_rounds-requires : goal.explore_rounds-requires
explore_rounds-requires g c = record { may = may_search_on c.loop-time.invariant }

pub returns-in_err-found-clause-searches : goal.returns-in_err-found-clause-searches
returns-in_err-found-clause-searches g c = search_failed c.from_residual-in_err-found.ensures.1 c.loop-time.invariant c.in_err-found.ensures.explores

pub returns-in-Some-2-clause-searches : goal.returns-in-Some-2-clause-searches
returns-in-Some-2-clause-searches g c = search_found (searching_more c.loop-time.invariant c.in_ok-found.ensures.explores) (rw c.in-Some-2.is at c.in_ok-found.ensures.found).found_is

pub loop-time-preserved : goal.loop-time-preserved
loop-time-preserved g c =
    let more = searching_more c.loop-time.invariant c.in_ok-found.ensures.explores in
    record {
      same = same_then more.same same_loans;
      served = more.served;
      valid = none_valid _ _ _ more.valid.graphs_are c.let_go.ensures;
      trials = more.trials;
    }

pub explore_whole-requires : goal.explore_whole-requires
explore_whole-requires g c = record { may = may_search_on c.loop-time.invariant }

pub returns-clause-searches : goal.returns-clause-searches
returns-clause-searches g c = search_last c.loop-time.invariant c.explore_whole.ensures.searches
