use Rattle.account_convert.proofs.ReadLemmas.{fault_answered, fault_had}
use Rattle.account_convert.proofs.conversion.convert.Goals as goal

pub returns-clause-fault : goal.returns-clause-fault
returns-clause-fault c record_number fault no_memory = (
  fault_had c.args.account.now c.convert_by.result record_number fault c.convert_by.ensures.stop,
  fault_answered c.args.account.now c.convert_by.result record_number fault c.convert_by.ensures.converted c.convert_by.ensures.stop no_memory,
)
