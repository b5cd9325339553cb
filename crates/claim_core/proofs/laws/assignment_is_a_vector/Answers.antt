use Rattle.claim_core.proofs.ConeLaws.{vector_there}
use Rattle.claim_core.proofs.laws.assignment_is_a_vector.Goals as goal

pub returns : goal.returns
returns c = vector_there
