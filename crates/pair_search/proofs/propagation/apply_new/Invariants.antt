use Rattle.pair_search.specs.Progress.{Propagates}
use Rattle.pair_search.proofs.propagation.apply_new.Given as goal

abbrev pub invariant-loop-number : goal.invariant-loop-number
invariant-loop-number l = Propagates l.bans l.fn.domains l.domains
