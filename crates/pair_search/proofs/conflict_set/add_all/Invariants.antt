use Rattle.std.proofs.Common.{take}
use Rattle.pair_search.proofs.ConflictLemmas.{IsAdding}
use Rattle.pair_search.proofs.conflict_set.add_all.Given as goal

abbrev pub invariant-loop-pair : goal.invariant-loop-pair
invariant-loop-pair l = IsAdding l.assigned l.needed.items (take l.pair-index l.pairs)
