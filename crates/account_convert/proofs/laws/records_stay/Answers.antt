use Rattle.account_convert.proofs.LawLemmas.{records_same}
use Rattle.account_convert.proofs.laws.records_stay.Goals as goal

pub returns : goal.returns
returns c = records_same
