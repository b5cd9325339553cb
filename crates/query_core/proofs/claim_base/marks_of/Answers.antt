-- One number more is marked.
use Rattle.std.proofs.Common.{◌<◌, true, length, take, set, slice_index_or, sym, ap, ◌∙◌, arith}
use Rattle.std.proofs.lemmas.List.{take_more}
use Rattle.bit_list.specs.Marking.{listed_marks}
use Rattle.bit_list.proofs.MarkLemmas.{length-listed, listed_more, none_listed}
use Rattle.query_core.proofs.claim_base.marks_of.Goals as goal

pub loop-number-init : goal.loop-number-init
loop-number-init c = c.none-marks.ensures ∙ sym (none_listed c.args.count)

pub loop-number-preserved : goal.loop-number-preserved
loop-number-preserved c =
    let count = c.args.count in
    let numbers = c.args.numbers.now in
    let i = c.loop-number.number-index in
    let number = slice_index_or numbers i 0 in
    let there : number < count = c.requires i 0 c.loop-number-test.true in
    c.in_ok-mark.ensures.marked ∙ (ap (λ m. set m number true) c.loop-number.invariant ∙ (sym (listed_more count _ number there) ∙ sym (ap (listed_marks count) (take_more numbers i 0 c.loop-number-test.true))))

pub mark-requires : goal.mark-requires
mark-requires c =
    let count = c.args.count in
    let numbers = c.args.numbers.now in
    let i = c.loop-number.number-index in
    omega (arith, c.requires i 0 c.loop-number-test.true, ap length c.loop-number.invariant, length-listed count (take i numbers))
