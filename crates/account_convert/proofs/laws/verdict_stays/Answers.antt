use Rattle.account_convert.proofs.LawLemmas.{accepted_too}
use Rattle.account_convert.proofs.laws.verdict_stays.Goals as goal

pub returns : goal.returns
returns c = accepted_too
