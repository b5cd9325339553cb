-- One ban after another.
use Rattle.account_core.proofs.StepLemmas.{bans_contradict}
use Rattle.account_core.proofs.step_laws.bans_exclude.Goals as goal

pub returns : goal.returns
returns c = bans_contradict
