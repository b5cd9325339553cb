-- Each match extends no pairs.
use Rattle.account_core.proofs.StepLemmas.{no_pairs}
use Rattle.account_core.proofs.step_laws.empty_ban_refuses.Goals as goal

pub returns : goal.returns
returns c = no_pairs
