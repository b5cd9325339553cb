-- The pair was made, and tried.
use Rattle.run_steps.proofs.TryingLemmas.{no_room}
use Rattle.npnp.proofs.ResultLemmas.{err_is}
use Rattle.npnp.proofs.trying.try_pair.Goals as goal

pub returns-in_err-pair : goal.returns-in_err-pair
returns-in_err-pair g c =
    no_room _ _ (err_is _ c.from_residual.ensures.1)
