-- A spent budget wasn't enough for circuits whose ports can be paired.
use Rattle.match_search.proofs.SearchLemmas.{spent_below}
use Rattle.match_search.proofs.searching.search.Goals as goal

pub returns-clause-below : goal.returns-clause-below
returns-clause-below g c = spent_below c.requires.may.graphs_are c.graphs-ports.ensures.ports c.search_all.ensures.searches
