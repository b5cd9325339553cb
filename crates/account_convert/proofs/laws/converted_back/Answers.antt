use Rattle.account_convert.proofs.LawLemmas.{back_same}
use Rattle.account_convert.proofs.laws.converted_back.Goals as goal

pub returns : goal.returns
returns c = back_same
