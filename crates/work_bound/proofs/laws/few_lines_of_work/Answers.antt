-- Different queries, and different clauses of each.
use Rattle.work_bound.proofs.WorkLemmas.{few_lines_of_work}
use Rattle.work_bound.proofs.laws.few_lines_of_work.Goals as goal

pub returns : goal.returns
returns c = few_lines_of_work
