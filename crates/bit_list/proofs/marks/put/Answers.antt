-- One number more is listed.
use Rattle.std.proofs.Common.{◌<◌, List, ℕ, true, length, set, All, sym, ap, subst, ◌∙◌, arith}
use Rattle.bit_list.specs.Marking.{AreBelow, listed_marks, marks_in}
use Rattle.bit_list.proofs.MarkLemmas.{below_put, length-listed, listed_put}
use Rattle.bit_list.proofs.marks.put.Goals as goal

pub returns-in_ok-insert-in-Few-clause-marked : goal.returns-in_ok-insert-in-Few-clause-marked
returns-in_ok-insert-in-Few-clause-marked c =
    let n = c.args.number in
    let count = c.in-Few.count in
    let numbers = c.in-Few.numbers.keys in
    let there : n < count = omega (arith, c.requires.there, ap (λ f. length (marks_in f)) c.in-Few.is, length-listed count numbers) in
    ap (listed_marks count) c.in_ok-insert-in-Few.ensures.keys ∙ (listed_put count numbers n there ∙ sym (ap (λ f. set (marks_in f) n true) c.in-Few.is))

pub returns-in_ok-insert-in-Few-clause-below : goal.returns-in_ok-insert-in-Few-clause-below
returns-in_ok-insert-in-Few-clause-below c =
    let n = c.args.number in
    let count = c.in-Few.count in
    let numbers = c.in-Few.numbers.keys in
    let there : n < count = omega (arith, c.requires.there, ap (λ f. length (marks_in f)) c.in-Few.is, length-listed count numbers) in
    subst (λ (ns : List ℕ). All (λ k. k < count) ns) (sym c.in_ok-insert-in-Few.ensures.keys) (below_put count numbers n there (subst AreBelow c.in-Few.is c.requires.below))
