use Rattle.match_search.specs.States.{lent}
use Rattle.match_search.proofs.AskLemmas.{IsSettling}
use Rattle.match_search.proofs.following.settle.Given as goal

abbrev pub invariant-loop-turn : goal.invariant-loop-turn
invariant-loop-turn g l =
    IsSettling l.graphs (lent g.O.Oracle.known l.fn.session) (lent g.O.Oracle.known l.session) l.fn.trail.domains l.trail.domains
