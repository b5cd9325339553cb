-- A match gives both outputs, on the vector with each X filled in, the bits that the values stand for.
use Rattle.account_core.proofs.SentValues.{vector_contradicts}
use Rattle.account_core.proofs.step_laws.vector_excludes.Goals as goal

pub returns : goal.returns
returns c = vector_contradicts
