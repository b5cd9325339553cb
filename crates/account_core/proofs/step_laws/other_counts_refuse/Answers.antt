-- A match is of circuits with the same numbers of ports.
use Rattle.account_core.proofs.StepLemmas.{other_counts}
use Rattle.account_core.proofs.step_laws.other_counts_refuse.Goals as goal

pub returns : goal.returns
returns c = other_counts
