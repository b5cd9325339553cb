use Rattle.account_trim.proofs.OutcomeLemmas as outcome
use Rattle.account_trim.proofs.laws.trimmed_again.Goals as goal

pub returns : goal.returns
returns c = outcome.trimmed_again
