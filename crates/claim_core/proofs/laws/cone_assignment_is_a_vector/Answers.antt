use Rattle.claim_core.proofs.ConeLaws.{cone_vector_there}
use Rattle.claim_core.proofs.laws.cone_assignment_is_a_vector.Goals as goal

pub returns : goal.returns
returns c = cone_vector_there
