use Rattle.match_search.specs.States.{lent}
use Rattle.match_search.proofs.AskLemmas.{IsUnderWay}
use Rattle.match_search.proofs.branching.run_rounds.Given as goal

abbrev pub invariant-loop-round : goal.invariant-loop-round
invariant-loop-round g l =
    IsUnderWay l.graphs (lent g.O.Oracle.known l.fn.session) (lent g.O.Oracle.known l.session) l.trail.domains
