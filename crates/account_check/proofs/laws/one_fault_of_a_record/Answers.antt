use Rattle.account_check.proofs.FaultLemmas.{one_fault}
use Rattle.account_check.proofs.laws.one_fault_of_a_record.Goals as goal

pub returns : goal.returns
returns c = one_fault
