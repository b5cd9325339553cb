-- Nothing is listed.
use Rattle.std.proofs.Common.{ap, ◌∙◌}
use Rattle.bit_list.specs.Marking.{listed_marks}
use Rattle.bit_list.proofs.MarkLemmas.{none_listed}
use Rattle.bit_list.proofs.marks.Marks.none.Goals as goal

pub returns : goal.returns
returns c = ap (listed_marks c.args.count) c.new.ensures.empty ∙ none_listed c.args.count
