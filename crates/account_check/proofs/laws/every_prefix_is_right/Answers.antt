-- By induction over the records.
use Rattle.account_check.proofs.RightLemmas.{right_prefix}
use Rattle.account_check.proofs.laws.every_prefix_is_right.Goals as goal

pub returns : goal.returns
returns c = right_prefix
