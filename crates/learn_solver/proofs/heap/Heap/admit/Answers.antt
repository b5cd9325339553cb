-- A number more.
use Rattle.std.proofs.Common.{◌+◌, true, length, slice_set, subst, ap, ◌∙◌, arith}
use Rattle.std.proofs.lemmas.Bool.{ltb-false}
use Rattle.learn_solver.specs.Heaps.{AreInverse, are_queued}
use Rattle.learn_solver.proofs.HeapLemmas.{admitted, place_says}
use Rattle.learn_solver.proofs.heap.Heap.admit.Goals as goal

pub invariant_of-self : goal.invariant_of-self
invariant_of-self c =
    let old = c.self.inside in
    let count = length old.keys.items in
    let is = c.self.invariant.inverse in
    let says = place_says count old.queued c.args.number c.index-place.result.now old.numbers.items old.places.items c.args.self.now is c.self.view_is c.requires.known c.index-place.ensures in
    record { inverse = c.exchange.ensures.inverse count is; most = omega (arith, says.2, ltb-false _ _ (says.3 ∙ c.requires.loose)) }

pub returns : goal.returns
returns c =
    let old = c.self.inside in
    let place = c.index-place.result.now in
    let now = c.exchange.new.numbers.items in
    let count = length old.keys.items in
    let is = c.self.invariant.inverse in
    let says = place_says count old.queued c.args.number place old.numbers.items old.places.items c.args.self.now is c.self.view_is c.requires.known c.index-place.ensures in
    let inverse = subst (AreInverse count now) c.exchange.ensures.places (c.exchange.ensures.inverse count is) in
    ap (are_queued (old.queued + 1)) c.exchange.ensures.places
    ∙ (admitted count old.queued old.numbers.items old.places.items now place c.args.number is inverse says.0 says.1 (ltb-false _ _ (says.3 ∙ c.requires.loose)) ∙ ap (λ queued. slice_set queued c.args.number true) c.self.view_is)
