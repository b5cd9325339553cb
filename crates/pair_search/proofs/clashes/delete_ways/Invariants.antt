use Rattle.pair_search.specs.Progress.{Propagates}
use Rattle.pair_search.proofs.clashes.delete_ways.Given as goal

abbrev pub invariant-loop-number : goal.invariant-loop-number
invariant-loop-number l = Propagates l.bans l.fn.domains l.domains
