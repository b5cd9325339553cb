-- Of two pairs in order, of one kind, neither port is the same.
use Rattle.account_core.proofs.OrderedPairs.{agree}
use Rattle.account_core.proofs.step_laws.ordered_pairs_agree.Goals as goal

pub returns : goal.returns
returns c = agree
