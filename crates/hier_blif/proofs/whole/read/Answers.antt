use Rattle.hier_blif.proofs.StopLemmas.{fault_answered}
use Rattle.hier_blif.proofs.whole.read.Goals as goal

pub returns-clause-fault : goal.returns-clause-fault
returns-clause-fault c = fault_answered c.read_file.result _ c.read_file.ensures.stop
