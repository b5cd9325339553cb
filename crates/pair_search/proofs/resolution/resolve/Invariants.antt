use Rattle.pair_search.proofs.ResolveLemmas.{IsResolving}
use Rattle.pair_search.proofs.resolution.resolve.Given as goal

abbrev pub invariant-loop-last : goal.invariant-loop-last
invariant-loop-last l = IsResolving l.graphs l.domains.entries l.fn.book l.book l.conflict l.limit

abbrev pub decreases-loop-last : goal.decreases-loop-last
decreases-loop-last l = l.limit
