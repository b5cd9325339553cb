use Rattle.match_search.proofs.SearchLemmas.{may_start}
use Rattle.match_search.proofs.searching.search_all.Goals as goal

pub refuse_or_explore-requires : goal.refuse_or_explore-requires
refuse_or_explore-requires g c = record { may = record { may = may_start c.requires.may c.facts-facts.ensures.lawful; trials = c.in_ok-heuristics.ensures } }
