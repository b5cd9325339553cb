-- The places are still those of the numbers.
use Rattle.std.proofs.Common.{◌≡◌, length, slice_index_or, slice_set, sym, subst, ap, ◌∙◌, arith}
use Rattle.std.proofs.lemmas.List.{get_or_read}
use Rattle.learn_solver.specs.Heaps.{AreInverse, are_queued}
use Rattle.learn_solver.proofs.HeapLemmas.{queued_exchanged, inverse_exchanged, written}
use Rattle.learn_solver.proofs.heap.exchange.Goals as goal

pub returns-clause-places : goal.returns-clause-places
returns-clause-places c =
    let numbers = c.args.numbers.now.items in
    let places = c.args.places.now.items in
    let one = c.args.one in
    let other = c.args.other in
    let first = get_or_read numbers one c.index-first.result.now c.requires.one c.index-first.ensures 0 in
    let second = get_or_read numbers other c.index-second.result.now c.requires.other c.index-second.ensures 0 in
    ap (λ v. slice_set (slice_set places v other) c.index-second.result.now one) first
    ∙ (ap (λ v. slice_set (slice_set places (slice_index_or numbers one 0) other) v one) second ∙ written (length numbers) numbers places one other c.requires.inverse c.requires.one c.requires.other)

pub returns-clause-inverse : goal.returns-clause-inverse
returns-clause-inverse c count is =
    let numbers = c.args.numbers.now.items in
    let now = c.swap.new.self.items in
    let size : length now ≡ length numbers = omega (arith, c.swap.ensures.len, c.args.numbers.now.ok.0, c.swap.new.self.ok.0) in
    subst (AreInverse count now) (sym (returns-clause-places c)) (inverse_exchanged count numbers c.args.places.now.items now c.args.one c.args.other is (omega (arith, c.requires.one, is.as_many)) (omega (arith, c.requires.other, is.as_many)) c.swap.ensures.by_index size)

pub returns-clause-kept : goal.returns-clause-kept
returns-clause-kept c queued same = ap (are_queued queued) (returns-clause-places c) ∙ queued_exchanged queued c.args.places.now.items c.args.one c.args.other same
