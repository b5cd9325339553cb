-- The first number is queued, where one is.
use Rattle.std.proofs.Common.{length, sym, ap, ◌∙◌, arith}
use Rattle.circuits.specs.Literals.{bit}
use Rattle.learn_solver.proofs.HeapLemmas.{as_many_queued, first_queued, none_queued}
use Rattle.learn_solver.proofs.heap.Heap.pop.Goals as goal

pub returns-then-self-eq0-clause-none : goal.returns-then-self-eq0-clause-none
returns-then-self-eq0-clause-none c =
    let old = c.self.inside in
    sym c.self.view_is ∙ none_queued old.queued old.places.items (length c.args.self.now) c.if-self-eq0.true (sym (as_many_queued old.queued old.places.items) ∙ ap length c.self.view_is)

pub dismiss-requires-clause-queued : goal.dismiss-requires-clause-queued
dismiss-requires-clause-queued c =
    let old = c.self.inside in
    sym (ap (λ queued. bit queued c.index-first.result.now) c.self.view_is) ∙ first_queued (length old.keys.items) old.queued old.numbers.items old.places.items c.index-first.result.now c.self.invariant.inverse (omega (arith, c.if-self-eq0.false)) c.self.invariant.most c.index-first.ensures

pub returns-clause-queued : goal.returns-clause-queued
returns-clause-queued c =
    let old = c.self.inside in
    sym (ap (λ queued. bit queued c.index-first.result.now) c.self.view_is) ∙ first_queued (length old.keys.items) old.queued old.numbers.items old.places.items c.index-first.result.now c.self.invariant.inverse (omega (arith, c.if-self-eq0.false)) c.self.invariant.most c.index-first.ensures
