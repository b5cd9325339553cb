use Rattle.account_file.proofs.LawLemmas.{same_records}
use Rattle.account_file.proofs.laws.one_list_of_records.Goals as goal

pub returns : goal.returns
returns c = λ lines first second f s. same_records lines first second f.form s.form
