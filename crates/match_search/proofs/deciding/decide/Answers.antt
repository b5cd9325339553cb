-- Guesses are compared, and then counts, more guesses and the search decide.
use Rattle.std.proofs.Common.{rules}
use Rattle.fact_bans.proofs.MakingLemmas.{made_same, makes_no_more, may_later}
use Rattle.match_search.proofs.SearchLemmas.{may_ask, may_start, searches_err, searches_last, searches_ok, searches_stop}
use Rattle.match_search.proofs.StepLemmas.{made_asked}
use Rattle.match_search.proofs.deciding.decide.Goals as goal

pub returns-in_err-guesses : goal.returns-in_err-guesses
returns-in_err-guesses g c =
    let may = may_start c.requires.may c.facts-facts.ensures.lawful in
    record { searches = searches_stop c.from_residual.ensures.1 (made_same _ _ _ _ may).served may.valid }

pub compare_guesses-requires : goal.compare_guesses-requires
compare_guesses-requires g c = record { may = may_ask (may_start c.requires.may c.facts-facts.ensures.lawful) }

pub returns-in_err-matching : goal.returns-in_err-matching
returns-in_err-matching g c =
    let may = may_start c.requires.may c.facts-facts.ensures.lawful in
    record { searches = searches_err c.from_residual-in_err-matching.ensures.1 (made_same _ _ _ _ may).served (makes_no_more _ _ _ _ _ _ _ may.valid c.in_err-matching.ensures.serves) }

pub returns-in-Some : goal.returns-in-Some
returns-in-Some g c =
    let made = made_asked (made_same _ _ _ _ (may_start c.requires.may c.facts-facts.ensures.lawful)) c.in_ok-matching.ensures.serves in
    record { searches = searches_ok made.served made.valid (rw c.in-Some.is at c.in_ok-matching.ensures.shown) }

pub returns-in_err-broken : goal.returns-in_err-broken
returns-in_err-broken g c =
    let made = made_asked (made_same _ _ _ _ (may_start c.requires.may c.facts-facts.ensures.lawful)) c.in_ok-matching.ensures.serves in
    record { searches = searches_stop c.from_residual-in_err-broken.ensures.1 made.served made.valid }

pub returns-in_err-heuristics : goal.returns-in_err-heuristics
returns-in_err-heuristics g c =
    let made = made_asked (made_same _ _ _ _ (may_start c.requires.may c.facts-facts.ensures.lawful)) c.in_ok-matching.ensures.serves in
    record { searches = searches_stop c.from_residual-in_err-heuristics.ensures.1 made.served made.valid }

pub refuse_or_find-requires : goal.refuse_or_find-requires
refuse_or_find-requires g c =
    let may = may_start c.requires.may c.facts-facts.ensures.lawful in
    record { may = record { may = may_later _ _ _ _ _ _ _ may (made_asked (made_same _ _ _ _ may) c.in_ok-matching.ensures.serves); trials = c.in_ok-heuristics.ensures } }

pub refuse_or_explore-requires : goal.refuse_or_explore-requires
refuse_or_explore-requires g c =
    let may = may_start c.requires.may c.facts-facts.ensures.lawful in
    record { may = record { may = may_later _ _ _ _ _ _ _ may (made_asked (made_same _ _ _ _ may) c.in_ok-matching.ensures.serves); trials = c.in_ok-heuristics.ensures } }

pub returns-in-Little : goal.returns-in-Little
returns-in-Little g c =
    let made = made_asked (made_same _ _ _ _ (may_start c.requires.may c.facts-facts.ensures.lawful)) c.in_ok-matching.ensures.serves in
    record { searches = searches_last made.served (search rules) }

pub returns : goal.returns
returns g c =
    let made = made_asked (made_same _ _ _ _ (may_start c.requires.may c.facts-facts.ensures.lawful)) c.in_ok-matching.ensures.serves in
    record { searches = searches_last made.served (search rules) }
