use Rattle.account_file.proofs.VersionLemmas as law
use Rattle.account_file.proofs.laws.one_answer.Goals as goal

pub returns : goal.returns
returns c = law.one_answer
