-- A number is marked where it is listed.
use Rattle.std.proofs.Common.{◌<◌, length, false, slice_index_or, sym, ap, ◌∙◌, arith}
use Rattle.bit_list.specs.Marking.{marks_in}
use Rattle.bit_list.proofs.MarkLemmas.{length-listed, listed_at}
use Rattle.bit_list.proofs.marks.is_marked.Goals as goal

pub returns-in-Few : goal.returns-in-Few
returns-in-Few c =
    let n = c.args.number in
    let count = c.in-Few.count in
    let numbers = c.in-Few.numbers.keys in
    let there : n < count = omega (arith, c.requires, ap (λ f. length (marks_in f)) c.in-Few.is, length-listed count numbers) in
    c.contains.ensures ∙ sym (ap (λ f. slice_index_or (marks_in f) n false) c.in-Few.is ∙ listed_at count numbers n there)
