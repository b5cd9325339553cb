use Rattle.pair_search.specs.Progress.{Propagates}
use Rattle.pair_search.proofs.propagation.apply_bans.Given as goal

abbrev pub invariant-loop-place : goal.invariant-loop-place
invariant-loop-place l = Propagates l.bans l.fn.domains l.domains
