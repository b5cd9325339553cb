use Rattle.match_search.specs.States.{lent}
use Rattle.match_search.proofs.AskLemmas.{IsDeleting}
use Rattle.match_search.proofs.unlike.delete_unlike.Given as goal

abbrev pub invariant-loop-way : goal.invariant-loop-way
invariant-loop-way g l =
    IsDeleting l.graphs (lent g.O.Oracle.known l.fn.session) (lent g.O.Oracle.known l.session) l.pair l.fn.domains l.domains
