-- Its records are taken, up to the end.
use Rattle.account_write.proofs.RefusalLemmas.{refusal_accepted}
use Rattle.account_write.proofs.laws.refusal_is_accepted.Goals as goal

pub returns : goal.returns
returns c = λ graphs facts bans number many. refusal_accepted graphs many facts bans number
