use Rattle.fact_tests.proofs.OneRow.{one_row}
use Rattle.fact_tests.proofs.laws.one_row.Goals as goal

pub returns : goal.returns
returns c = one_row
