use Rattle.ban_check.specs.PairIndices.{IsIndexOfFirst}
use Rattle.ban_check.proofs.pair_index.index_of.Given as goal

abbrev pub invariant-loop-place : goal.invariant-loop-place
invariant-loop-place l = IsIndexOfFirst l.pairs l.place l.by_port.entries
