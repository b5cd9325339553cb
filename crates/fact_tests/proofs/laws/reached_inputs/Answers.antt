use Rattle.fact_tests.proofs.ReachLemmas.{same_output, unreached_outside}
use Rattle.fact_tests.proofs.laws.reached_inputs.Goals as goal

pub returns-clause-same : goal.returns-clause-same
returns-clause-same c = same_output

pub returns-clause-outside : goal.returns-clause-outside
returns-clause-outside c = unreached_outside
