-- Counts refuse a match, or some rounds come to something, or a matching is a match, or the search goes on with the bans that are kept.
use Rattle.match_search.proofs.SearchLemmas.{may_ask, may_search_on, search_ended, search_failed, search_found, search_last, searching_asked, searching_more, searching_start}
use Rattle.match_search.proofs.deciding.refuse_or_find.Goals as goal

pub returns-in_err-ban : goal.returns-in_err-ban
returns-in_err-ban g c = record { searches = search_failed c.from_residual.ensures.1 (searching_start c.requires.may) c.in_err-ban.ensures.explores }

pub returns-in-Some : goal.returns-in-Some
returns-in-Some g c = record { searches = search_found (searching_more (searching_start c.requires.may) c.in_ok-ban.ensures.explores) (rw c.in-Some.is at c.in_ok-ban.ensures.empty) }

pub explore_rounds-requires : goal.explore_rounds-requires
explore_rounds-requires g c = record { may = may_search_on (searching_more (searching_start c.requires.may) c.in_ok-ban.ensures.explores) }

pub returns-in_err-found : goal.returns-in_err-found
returns-in_err-found g c = record { searches = search_failed c.from_residual-in_err-found.ensures.1 (searching_more (searching_start c.requires.may) c.in_ok-ban.ensures.explores) c.in_err-found.ensures.explores }

pub returns-in-Some-2 : goal.returns-in-Some-2
returns-in-Some-2 g c = record { searches = search_found (searching_more (searching_more (searching_start c.requires.may) c.in_ok-ban.ensures.explores) c.in_ok-found.ensures.explores) (rw c.in-Some-2.is at c.in_ok-found.ensures.found).found_is }

pub compare_guesses-requires : goal.compare_guesses-requires
compare_guesses-requires g c =
    record { may = may_ask (may_search_on (searching_more (searching_more (searching_start c.requires.may) c.in_ok-ban.ensures.explores) c.in_ok-found.ensures.explores)).may }

pub returns-in_err-matching : goal.returns-in_err-matching
returns-in_err-matching g c =
    let searching = searching_more (searching_more (searching_start c.requires.may) c.in_ok-ban.ensures.explores) c.in_ok-found.ensures.explores in
    record { searches = search_ended c.from_residual-in_err-matching.ensures.1 searching c.in_err-matching.ensures.serves }

pub returns-in-Some-3 : goal.returns-in-Some-3
returns-in-Some-3 g c =
    let searching = searching_more (searching_more (searching_start c.requires.may) c.in_ok-ban.ensures.explores) c.in_ok-found.ensures.explores in
    record { searches = search_found (searching_asked searching c.in_ok-matching.ensures.serves) (rw c.in-Some-3.is at c.in_ok-matching.ensures.shown) }

pub refuse_or_explore-requires : goal.refuse_or_explore-requires
refuse_or_explore-requires g c =
    let searching = searching_more (searching_more (searching_start c.requires.may) c.in_ok-ban.ensures.explores) c.in_ok-found.ensures.explores in
    record { may = may_search_on (searching_asked searching c.in_ok-matching.ensures.serves) }

pub returns : goal.returns
returns g c =
    let searching = searching_more (searching_more (searching_start c.requires.may) c.in_ok-ban.ensures.explores) c.in_ok-found.ensures.explores in
    record { searches = search_last (searching_asked searching c.in_ok-matching.ensures.serves) c.refuse_or_explore.ensures.searches }
