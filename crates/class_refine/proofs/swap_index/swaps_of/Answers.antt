use Rattle.std.proofs.Common.{ℕ, map, subst, arith}
use Rattle.std.proofs.lemmas.List.{length-map}
use Rattle.account_core.specs.Given.{decided_by}
use Rattle.class_refine.specs.Swaps.{IsIndexOfFirst}
use Rattle.class_refine.proofs.SwapIndexLemmas.{index_none}
use Rattle.class_refine.proofs.swap_index.swaps_of.Goals as goal

pub loop-number-init : goal.loop-number-init
loop-number-init c = index_none (map decided_by c.args.facts.now) c.new-swaps.result.entries c.new-swaps.ensures.empty

pub returns : goal.returns
returns c =
    subst (λ (n : ℕ). IsIndexOfFirst (map decided_by c.args.facts.now) n c.loop-number.swaps.entries) (omega (arith, c.loop-number-test.false, length-map c.args.facts.now decided_by)) c.loop-number.invariant
