use Rattle.account_file.proofs.VersionLemmas as law
use Rattle.account_file.proofs.laws.account_or_fault.Goals as goal

pub returns-clause-text : goal.returns-clause-text
returns-clause-text c = law.every_text

pub returns-clause-binary : goal.returns-clause-binary
returns-clause-binary c = law.every_binary
