use Rattle.std.proofs.Common.{◌≡◌, ℕ, Bool, List, length, map, ap, ◌∙◌, arith}
use Rattle.std.proofs.lemmas.List.Sorted.{length_permutation}
use Rattle.std.proofs.lemmas.List.FromFn.{length-range_with_len}
use Rattle.rand_pcg.specs.Lcg.{Lcg}
use Rattle.circuits.specs.Bijections.{IsSignedBijection}
use Rattle.gen_pair.specs.Shuffles.{signed_places, hidden_ports}
use Rattle.gen_pair.proofs.Drawn.{hidden_drawn}
use Rattle.gen_pair.proofs.Shuffled.{written, hidden_bijection}
use Rattle.gen_pair.proofs.hidden.hidden_ports.Goals as goal
use Rattle.std.proofs.lemmas.Result.{IfOk-weaker}

pub shuffle-requires : goal.shuffle-requires
shuffle-requires c = omega (arith, ap length c.deref_mut.ensures.value, ap length c.in_ok-places.ensures, length-range_with_len 0 c.args.count, c.ranges.count)

pub returns-clause-bijection : goal.returns-clause-bijection
returns-clause-bijection c =
    let start = c.deref_mut.ensures.value ∙ c.in_ok-places.ensures in
    let old = c.in_ok-places.places in
    let same : c.deref.result.now ≡ c.shuffle.new.places =
    c.deref.ensures.value
    ∙ written c.shuffle.new.places old.items old.len
    (omega (arith, length_permutation c.deref_mut.result.now c.shuffle.new.places c.shuffle.ensures.permutation, ap length c.deref_mut.ensures.value)) old.ok.0 in
    IfOk-weaker c.with_signs.result (λ (ports : List (ℕ × Bool)). map (λ port. port.0) ports ≡ c.deref.result.now) (IsSignedBijection c.args.count)
    (λ ports firsts. hidden_bijection c.args.count c.deref_mut.result.now c.shuffle.new.places c.deref.result.now ports start c.shuffle.ensures.permutation same firsts)
    c.with_signs.ensures.places

pub returns-clause-drawn : goal.returns-clause-drawn
returns-clause-drawn c =
    let start = c.deref_mut.ensures.value ∙ c.in_ok-places.ensures in
    let old = c.in_ok-places.places in
    let same : c.deref.result.now ≡ c.shuffle.new.places =
    c.deref.ensures.value
    ∙ written c.shuffle.new.places old.items old.len
    (omega (arith, length_permutation c.deref_mut.result.now c.shuffle.new.places c.shuffle.ensures.permutation, ap length c.deref_mut.ensures.value)) old.ok.0 in
    IfOk-weaker c.with_signs.result
    (λ (ports : List (ℕ × Bool)). ◌≡◌ {A = List (ℕ × Bool) × Lcg} (ports, c.with_signs.new.random) (signed_places c.deref.result.now (length c.deref.result.now) c.shuffle.new.random))
    (λ (ports : List (ℕ × Bool)). ◌≡◌ {A = List (ℕ × Bool) × Lcg} (ports, c.with_signs.new.random) (hidden_ports c.args.count c.args.random.now))
    (λ ports signs. hidden_drawn c.args.count c.deref_mut.result.now c.shuffle.new.places c.deref.result.now ports c.args.random.now c.shuffle.new.random c.with_signs.new.random start c.shuffle.ensures.permutation c.shuffle.ensures.drawn same signs)
    c.with_signs.ensures.drawn
