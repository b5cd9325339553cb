-- None is queued.
use Rattle.std.proofs.Common.{List, ℕ, length, refl, sym, subst, ap, ◌∙◌, arith}
use Rattle.std.specs.List.{range_with_len}
use Rattle.std.proofs.lemmas.List.{length-replicate}
use Rattle.std.proofs.lemmas.List.FromFn.{length-range_with_len}
use Rattle.learn_solver.specs.Heaps.{AreInverse}
use Rattle.learn_solver.proofs.HeapLemmas.{inverse_start, none_queued}
use Rattle.learn_solver.proofs.heap.Heap.new.Goals as goal

pub invariant_of-result : goal.invariant_of-result
invariant_of-result c =
    let all = range_with_len 0 c.args.count in
    let keys = ap length (c.in_ok-keys.ensures.items_if_clones_equal (λ y e. e)) ∙ length-replicate c.args.count 0 in
    record {
      inverse = subst (λ n. AreInverse n c.in_ok-numbers.numbers.items c.in_ok-places.places.items) (sym keys) (subst (λ (ns : List ℕ). AreInverse c.args.count ns c.in_ok-places.places.items) (sym c.in_ok-numbers.ensures) (subst (λ (ps : List ℕ). AreInverse c.args.count all ps) (sym c.in_ok-places.ensures) (inverse_start c.args.count)));
      most = omega arith;
    }

pub returns : goal.returns
returns c = none_queued 0 c.in_ok-places.places.items c.args.count refl (ap length c.in_ok-places.ensures ∙ length-range_with_len 0 c.args.count)
