use Rattle.pair_search.specs.Progress.{left}
use Rattle.match_search.specs.States.{lent}
use Rattle.match_search.proofs.AskLemmas.{IsUnderWay}
use Rattle.match_search.proofs.branching.explore_round.Given as goal

abbrev pub invariant-loop-session : goal.invariant-loop-session
invariant-loop-session g l =
    IsUnderWay l.graphs (lent g.O.Oracle.known l.fn.session) (lent g.O.Oracle.known l.session) l.trail.domains

abbrev pub decreases-loop-session : goal.decreases-loop-session
decreases-loop-session g l = left l.trail.domains
