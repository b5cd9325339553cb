use Rattle.match_search.specs.States.{lent}
use Rattle.match_search.proofs.StepLemmas.{HasGoneOn}
use Rattle.match_search.proofs.swap_bans.exclude_by_swaps.Given as goal

abbrev pub invariant-loop-other : goal.invariant-loop-other
invariant-loop-other g l =
    HasGoneOn l.graphs (lent g.O.Oracle.known l.fn.session) (lent g.O.Oracle.known l.session)
