use Rattle.match_search.specs.States.{lent}
use Rattle.match_search.proofs.AskLemmas.{IsUnderWay}
use Rattle.match_search.proofs.asking.ask_assigned.Given as goal

abbrev pub invariant-loop-other : goal.invariant-loop-other
invariant-loop-other g l =
    IsUnderWay l.graphs (lent g.O.Oracle.known l.fn.session) (lent g.O.Oracle.known l.session) l.domains
