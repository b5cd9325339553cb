-- Its ban without pairs excludes every match, or the numbers of ports do.
use Rattle.account_check.proofs.RefusalLemmas.{right_refusal}
use Rattle.account_check.proofs.laws.accepted_refusal_is_right.Goals as goal

pub returns : goal.returns
returns c = right_refusal
