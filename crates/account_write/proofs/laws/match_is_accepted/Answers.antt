-- Its records are taken, up to the end.
use Rattle.account_write.proofs.MatchLemmas.{match_accepted}
use Rattle.account_write.proofs.laws.match_is_accepted.Goals as goal

pub returns : goal.returns
returns c = match_accepted
