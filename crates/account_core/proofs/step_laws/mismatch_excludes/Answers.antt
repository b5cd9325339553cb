-- Under a match a claim holds exactly where its image holds.
use Rattle.account_core.proofs.ImageLemmas.{mismatch_contradicts}
use Rattle.account_core.proofs.step_laws.mismatch_excludes.Goals as goal

pub returns : goal.returns
returns c = mismatch_contradicts
