use Rattle.refusal_core.proofs.ValidLemmas.{facts_kept}
use Rattle.refusal_core.proofs.laws.trimmed_facts.Goals as goal

pub returns : goal.returns
returns c = facts_kept
