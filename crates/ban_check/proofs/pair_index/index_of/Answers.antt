use Rattle.std.proofs.Common.{ℕ, subst, arith}
use Rattle.ban_check.specs.PairIndices.{IsIndexOfFirst}
use Rattle.ban_check.proofs.PairIndexLemmas.{index_none}
use Rattle.ban_check.proofs.pair_index.index_of.Goals as goal

pub loop-place-init : goal.loop-place-init
loop-place-init c = index_none c.args.pairs.now c.new-by_port.result.entries c.new-by_port.ensures.empty

pub returns : goal.returns
returns c = subst (λ (n : ℕ). IsIndexOfFirst c.args.pairs.now n c.loop-place.by_port.entries) (omega (arith, c.loop-place-test.false)) c.loop-place.invariant
