-- The feed of a signed bijection, and that it is the only one.
use Rattle.claim_core.proofs.MatchLemmas.{moved_is, moved_alone}
use Rattle.claim_core.proofs.laws.wires_of_a_bijection.Goals as goal

pub returns : goal.returns
returns c = record { wires = moved_is; only = moved_alone }
