use Rattle.match_search.specs.States.{lent}
use Rattle.match_search.proofs.StepLemmas.{HasGoneOn}
use Rattle.match_search.proofs.swap_bans.exclude_with.Given as goal

abbrev pub invariant-loop-third : goal.invariant-loop-third
invariant-loop-third g l =
    HasGoneOn l.graphs (lent g.O.Oracle.known l.fn.session) (lent g.O.Oracle.known l.session)
