-- All logs of the match were taken line by line, up to the end.
use Rattle.account_check.proofs.MatchLemmas.{right_match}
use Rattle.account_check.proofs.laws.accepted_match_is_right.Goals as goal

pub returns : goal.returns
returns c = right_match
