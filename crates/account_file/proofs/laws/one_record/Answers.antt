use Rattle.account_file.proofs.LawLemmas as law
use Rattle.account_file.proofs.laws.one_record.Goals as goal

pub returns : goal.returns
returns c = law.same_record
