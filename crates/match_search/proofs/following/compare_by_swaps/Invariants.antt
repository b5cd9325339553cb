use Rattle.match_search.specs.States.{lent}
use Rattle.match_search.proofs.AskLemmas.{IsUnderWay}
use Rattle.match_search.proofs.following.compare_by_swaps.Given as goal

abbrev pub invariant-loop-place : goal.invariant-loop-place
invariant-loop-place g l =
    IsUnderWay l.graphs (lent g.O.Oracle.known l.fn.session) (lent g.O.Oracle.known l.session) l.domains
