use Rattle.cnf_core.proofs.DerivationLaws.{refuted_unmet}
use Rattle.cnf_core.proofs.laws.refuted_is_unsatisfiable.Goals as goal

pub returns : goal.returns
returns c = refuted_unmet
