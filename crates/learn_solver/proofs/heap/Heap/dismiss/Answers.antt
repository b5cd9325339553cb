-- A number less.
use Rattle.std.proofs.Common.{◌≡◌, ◌-◌, ◌+◌, ◌<◌, false, length, slice_set, subst, ap, ◌∙◌, arith}
use Rattle.std.proofs.lemmas.Bool.{ltb-true}
use Rattle.learn_solver.specs.Heaps.{AreInverse, are_queued}
use Rattle.learn_solver.proofs.HeapLemmas.{dismissed, place_says}
use Rattle.learn_solver.proofs.heap.Heap.dismiss.Goals as goal

pub returns : goal.returns
returns c =
    let old = c.self.inside in
    let v = c.args.number in
    let place = c.index-place.result.now in
    let now = c.exchange.new.numbers.items in
    let count = length old.keys.items in
    let is = c.self.invariant.inverse in
    let says = place_says count old.queued v place old.numbers.items old.places.items c.args.self.now is c.self.view_is c.requires.known c.index-place.ensures in
    let low : place < old.queued = ltb-true _ _ (says.3 ∙ c.requires.queued) in
    let last : old.queued - 1 + 1 ≡ old.queued = omega (arith, low) in
    let inverse = subst (AreInverse count now) c.exchange.ensures.places (c.exchange.ensures.inverse count is) in
    ap (are_queued (old.queued - 1)) c.exchange.ensures.places
    ∙ (dismissed count (old.queued - 1) old.numbers.items old.places.items now place v is inverse says.0 says.1 (omega (arith, low))
    ∙ (ap (λ queued. slice_set (are_queued queued old.places.items) v false) last ∙ ap (λ queued. slice_set queued v false) c.self.view_is))
