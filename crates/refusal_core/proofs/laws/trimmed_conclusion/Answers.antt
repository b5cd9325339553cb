use Rattle.refusal_core.proofs.ValidLemmas.{conclusion_kept}
use Rattle.refusal_core.proofs.laws.trimmed_conclusion.Goals as goal

pub returns : goal.returns
returns c = conclusion_kept
