-- What was given keeps its numbers.
use Rattle.account_core.proofs.Growing.{ban_stays_valid}
use Rattle.account_core.proofs.step_laws.valid_ban_stays.Goals as goal

pub returns : goal.returns
returns c = λ graphs given facts bans. ban_stays_valid given facts bans graphs
