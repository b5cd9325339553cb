-- By the kind of its step.
use Rattle.account_core.proofs.StepLemmas.{ban_contradicts}
use Rattle.account_core.proofs.step_laws.valid_ban_excludes.Goals as goal

pub returns : goal.returns
returns c = ban_contradicts
