use Rattle.std.proofs.Common.{ℕ, ◌-◌, swap, ap, sym, ◌∙◌, arith}
use Rattle.std.proofs.lemmas.List.Sorted.{IsPermutation-trans}
use Rattle.rand_pcg.specs.Lcg.{Lcg}
use Rattle.gen_pair.specs.Shuffles.{shuffled}
use Rattle.gen_pair.proofs.Drawn.{shuffled_more, shuffled_done}
use Rattle.gen_pair.proofs.hidden.shuffle.Goals as goal

pub loop-left-preserved : goal.loop-left-preserved
loop-left-preserved c =
    let left = c.loop-left.left in
    let places = c.loop-left.places in
    record {
      permutation = IsPermutation-trans c.args.places.now places c.swap.new.self c.loop-left.invariant.permutation c.swap.ensures.permutation;
      within = omega (arith, c.swap.ensures.len, c.loop-left.invariant.within);
      same = c.swap.ensures.len ∙ c.loop-left.invariant.same;
      drawn =
          ap (λ p. shuffled (left - 1 - 1) p c.draw-drawn.new.random) c.swap.ensures.after
          ∙ ap (λ (d : ℕ × Lcg). shuffled (left - 1 - 1) (swap places (left - 1) d.0) d.1) c.draw-drawn.ensures.drawn
          ∙ sym (shuffled_more left places c.loop-left.random c.loop-left-test.true)
          ∙ c.loop-left.invariant.drawn;
    }

pub returns-clause-drawn : goal.returns-clause-drawn
returns-clause-drawn c = sym (shuffled_done c.loop-left.left c.loop-left.places c.loop-left.random (omega (arith, c.loop-left-test.false))) ∙ c.loop-left.invariant.drawn
