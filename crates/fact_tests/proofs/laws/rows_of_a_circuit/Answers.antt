use Rattle.fact_tests.proofs.RowLemmas.{rows_of}
use Rattle.fact_tests.proofs.laws.rows_of_a_circuit.Goals as goal

pub returns : goal.returns
returns c = rows_of
