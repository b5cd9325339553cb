use Rattle.std.proofs.Common.{◌≡◌, ◌<◌, ◌-◌, ◌∙◌, ap, sym, refl, length, get_or, arith}
use Rattle.std.proofs.lemmas.List.{get_or_default}
use Rattle.hier_blif.specs.declared.order.Visit.TheVariants.{New}
use Rattle.hier_blif.specs.Order.{place_of}
use Rattle.hier_blif.proofs.OrderLemmas.{way_close, way_enter, way_loop, less_close, top_there, recursion_stop}
use Rattle.hier_blif.proofs.order.ModelSearch.advance.Goals as goal

pub returns-in_default-clause-under_way : goal.returns-in_default-clause-under_way
returns-in_default-clause-under_way c =
    let models = c.args.scope.now.models.now in
    let root = place_of models c.args.root.now in
    let stack = c.args.self.now.stack.items in
    let place = c.index-place.result.now in
    let more : 0 < length stack = omega (arith, c.requires.more) in
    let at : c.len.result - 1 ≡ length stack - 1 = omega arith in
    let top = c.index-place.ensures ∙ ap (λ n. get_or stack n place) at in
    let there = top_there models root place stack more top c.requires.under_way.path in
    let h = c.in_ok-close.ensures in
    way_close models root c.args.self.now c.close.new.self place more top there (c.in_default.ensures.none refl) h.visits h.stack h.looked h.order c.requires.under_way

pub returns-in_default-clause-less : goal.returns-in_default-clause-less
returns-in_default-clause-less c =
    let models = c.args.scope.now.models.now in
    let root = place_of models c.args.root.now in
    let stack = c.args.self.now.stack.items in
    let place = c.index-place.result.now in
    let more : 0 < length stack = omega (arith, c.requires.more) in
    let at : c.len.result - 1 ≡ length stack - 1 = omega arith in
    let top = c.index-place.ensures ∙ ap (λ n. get_or stack n place) at in
    let there = top_there models root place stack more top c.requires.under_way.path in
    let h = c.in_ok-close.ensures in
    less_close c.args.self.now c.close.new.self place (omega (arith, there, c.requires.under_way.knows.entries)) more h.visits h.stack

pub index-requires : goal.index-requires
index-requires c =
    let call = c.in-Some.ensures.some c.in-Some.call refl in
    omega (arith, call.there, c.requires.under_way.knows.entries)

pub returns-in_default-index : goal.returns-in_default-index
returns-in_default-index c =
    let models = c.args.scope.now.models.now in
    let root = place_of models c.args.root.now in
    let stack = c.args.self.now.stack.items in
    let visits = c.args.self.now.visits.items in
    let place = c.index-place.result.now in
    let callee = c.in-Some.call.callee in
    let more : 0 < length stack = omega (arith, c.requires.more) in
    let at : c.len.result - 1 ≡ length stack - 1 = omega arith in
    let top = c.index-place.ensures ∙ ap (λ n. get_or stack n place) at in
    let call = c.in-Some.ensures.some c.in-Some.call refl in
    let read = get_or_default visits callee New c.index.result.now (omega (arith, call.there, c.requires.under_way.knows.entries)) in
    let recursive = way_loop models root c.args.self.now place callee more top call.callee call.open_or_new (λ new. c.in_default-index.not-New (c.index.ensures ∙ (sym read ∙ new))) c.requires.under_way in
    record { under_way = tt; less = tt; grows = tt; fault = recursion_stop models c.args.root.now c.fault_at.result c.fault_at.ensures recursive }

pub returns-clause-under_way : goal.returns-clause-under_way
returns-clause-under_way c =
    let models = c.args.scope.now.models.now in
    let root = place_of models c.args.root.now in
    let stack = c.args.self.now.stack.items in
    let place = c.index-place.result.now in
    let callee = c.in-Some.call.callee in
    let more : 0 < length stack = omega (arith, c.requires.more) in
    let at : c.len.result - 1 ≡ length stack - 1 = omega arith in
    let top = c.index-place.ensures ∙ ap (λ n. get_or stack n place) at in
    let there = top_there models root place stack more top c.requires.under_way.path in
    let call = c.in-Some.ensures.some c.in-Some.call refl in
    let h = c.in_ok-descend-in-New.ensures in
    way_enter models root c.args.self.now c.descend.new.self place callee c.in-Some.call.line more top there call.there call.looked call.callee h.visits h.stack h.looked h.order c.requires.under_way
