use Rattle.account_convert.proofs.LawLemmas.{accepted_before}
use Rattle.account_convert.proofs.laws.verdict_was.Goals as goal

pub returns : goal.returns
returns c = accepted_before
