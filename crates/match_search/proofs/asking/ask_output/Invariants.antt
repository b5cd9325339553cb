use Rattle.match_search.specs.States.{lent}
use Rattle.match_search.proofs.StepLemmas.{HasGoneOn}
use Rattle.match_search.proofs.asking.ask_output.Given as goal

abbrev pub invariant-loop-number : goal.invariant-loop-number
invariant-loop-number g l =
    HasGoneOn l.graphs (lent g.O.Oracle.known l.fn.session) (lent g.O.Oracle.known l.session)
