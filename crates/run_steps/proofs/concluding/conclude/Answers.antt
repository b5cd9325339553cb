-- The account was written, or a first part of it.
use Rattle.run_steps.proofs.FindLemmas.{concluded, not_concluded}
use Rattle.run_steps.proofs.concluding.conclude.Goals as goal

pub returns-in-Ok : goal.returns-in-Ok
returns-in-Ok g c = concluded _ _ _ _ _ _ c.in-Ok.ensures

pub returns-in-Err : goal.returns-in-Err
returns-in-Err g c = not_concluded _ _ _ _ _ _ c.in-Err.stop c.unwritten.result c.unwritten.ensures c.in-Err.ensures
