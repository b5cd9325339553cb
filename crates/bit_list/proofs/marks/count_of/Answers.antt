-- There is a bit for each number.
use Rattle.std.proofs.Common.{length, sym, ap, ◌∙◌}
use Rattle.bit_list.specs.Marking.{marks_in}
use Rattle.bit_list.proofs.MarkLemmas.{length-listed}
use Rattle.bit_list.proofs.marks.count_of.Goals as goal

pub returns-in-Few : goal.returns-in-Few
returns-in-Few c = sym (ap (λ f. length (marks_in f)) c.in-Few.is ∙ length-listed c.in-Few.count c.in-Few.numbers.keys)
