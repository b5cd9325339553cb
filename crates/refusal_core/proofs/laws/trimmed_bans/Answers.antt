use Rattle.refusal_core.proofs.ValidLemmas.{bans_kept}
use Rattle.refusal_core.proofs.laws.trimmed_bans.Goals as goal

pub returns : goal.returns
returns c = bans_kept
