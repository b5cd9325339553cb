-- One number more is marked.
use Rattle.std.proofs.Common.{◌<◌, List, Bool, true, set, slice_index_or, sym, ap, ◌∙◌, take}
use Rattle.std.proofs.lemmas.List.{take_more}
use Rattle.bit_list.specs.Marking.{listed_marks}
use Rattle.bit_list.proofs.MarkLemmas.{listed_more, none_listed}
use Rattle.bit_list.proofs.marks.table_of.Goals as goal

pub loop-number-init : goal.loop-number-init
loop-number-init c = c.in_ok-table.ensures ∙ sym (none_listed c.args.count)

pub loop-number-preserved : goal.loop-number-preserved
loop-number-preserved c =
    let numbers = c.args.numbers.now in
    let k = c.loop-number.number-index in
    let n = slice_index_or numbers k 0 in
    let count = c.args.count in
    let there : n < count = c.requires k 0 c.loop-number-test.true in
    ap (λ (marks : List Bool). set marks n true) c.loop-number.invariant
    ∙ (sym (listed_more count (take k numbers) n there) ∙ ap (listed_marks count) (sym (take_more numbers k 0 c.loop-number-test.true)))
