use Rattle.refusal_core.proofs.ValidLemmas.{refer_back}
use Rattle.refusal_core.proofs.laws.valid_bans_refer_back.Goals as goal

pub returns : goal.returns
returns c = refer_back
