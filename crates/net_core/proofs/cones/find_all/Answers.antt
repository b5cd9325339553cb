-- One gate more had its operands looked at.
use Rattle.std.proofs.Common.{◌≡◌, ◌<◌, length, slice_index_or, ap, subst, ◌∙◌, arith}
use Rattle.std.proofs.lemmas.List.{get_or_default}
use Rattle.circuits.specs.declared.netlist.Gate.{Gate}
use Rattle.net_core.specs.Cones.{IsFoundBy, IsSearched}
use Rattle.net_core.proofs.ConeLemmas.{found_few, found_there, searched_all, searched_first, searched_more}
use Rattle.net_core.proofs.cones.find_all.Goals as goal

pub loop-next-init : goal.loop-next-init
loop-next-init c =
    searched_first c.args.first c.args.gates.now c.args.signal c.args.marks.now c.find.new.marks c.args.found.now.items c.find.new.found.items c.requires.unmarked c.requires.none c.requires.there c.in_ok-find.ensures

pub loop-next-smaller : goal.loop-next-smaller
loop-next-smaller c =
    let few = found_few c.args.first c.args.gates.now c.args.signal c.loop-next.next c.loop-next.marks c.loop-next.found.items c.loop-next.invariant in
    omega (arith, few, c.loop-next-test.true, c.len.ensures)

pub loop-next-preserved : goal.loop-next-preserved
loop-next-preserved c =
    let first = c.args.first in
    let gates = c.args.gates.now in
    let found = c.loop-next.found.items in
    let n = c.loop-next.next in
    let none : Gate = record { a = record { 0 = 0 }; b = record { 0 = 0 } } in
    let gate : Gate = slice_index_or gates c.index.result.now none in
    let within : n < length found = omega (arith, c.loop-next-test.true, c.len.ensures) in
    let searched = c.loop-next.invariant in
    let at : c.index.result.now ≡ slice_index_or found n 0 = c.index.ensures ∙ get_or_default found n c.index.result.now 0 within in
    let there = found_there first gates c.args.signal n c.loop-next.marks found searched n 0 within in
    let gate_is : (d : Gate) → gate ≡ slice_index_or gates (slice_index_or found n 0) d = λ d. ap (λ t. slice_index_or gates t none) at ∙ get_or_default gates (slice_index_or found n 0) none d there in
    let by_a = subst (λ s. IsFoundBy first s c.loop-next.marks found c.find-in-loop-next.new.marks c.find-in-loop-next.new.found.items) c.signal.ensures c.in_ok-find-2.ensures in
    let by_b = subst (λ s. IsFoundBy first s c.find-in-loop-next.new.marks c.find-in-loop-next.new.found.items c.find-in-loop-next-2.new.marks c.find-in-loop-next-2.new.found.items) c.signal-in-loop-next.ensures c.in_ok-find-3.ensures in
    searched_more first gates c.args.signal n gate c.loop-next.marks c.find-in-loop-next.new.marks c.find-in-loop-next-2.new.marks found c.find-in-loop-next.new.found.items c.find-in-loop-next-2.new.found.items c.requires.order within gate_is by_a by_b searched

pub returns : goal.returns
returns c =
    let all : c.loop-next.next ≡ length c.loop-next.found.items = omega (arith, c.loop-next-test.false, c.len.ensures, c.loop-next.invariant.done) in
    searched_all c.args.first c.args.gates.now c.args.signal c.loop-next.marks c.loop-next.found.items c.requires.there (subst (λ n. IsSearched c.args.first c.args.gates.now c.args.signal n c.loop-next.marks c.loop-next.found.items) all c.loop-next.invariant)
