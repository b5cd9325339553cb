use Rattle.match_search.specs.States.{lent}
use Rattle.match_search.proofs.SearchLemmas.{IsSearching}
use Rattle.match_search.proofs.searching.refuse_or_explore.Given as goal

abbrev pub invariant-loop-time : goal.invariant-loop-time
invariant-loop-time g l =
    IsSearching l.graphs (lent g.O.Oracle.known l.fn.session) (lent g.O.Oracle.known l.session)
