use Rattle.account_file.proofs.VersionLemmas as law
use Rattle.account_file.proofs.laws.one_fault.Goals as goal

pub returns-clause-one : goal.returns-clause-one
returns-clause-one c = law.one_fault

pub returns-clause-none : goal.returns-clause-none
returns-clause-none c = law.account_or_fault
