use Rattle.match_search.specs.States.{lent}
use Rattle.match_search.proofs.AskLemmas.{IsUnderWay}
use Rattle.match_search.proofs.table_refusal.take_turns.Given as goal

abbrev pub invariant-loop-turn : goal.invariant-loop-turn
invariant-loop-turn g l =
    IsUnderWay l.graphs (lent g.O.Oracle.known l.fn.session) (lent g.O.Oracle.known l.session) l.trail.domains
