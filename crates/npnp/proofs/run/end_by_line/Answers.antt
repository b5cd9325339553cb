-- The line was written, or there was no memory for it.
use Rattle.std.proofs.Common.{inl, inr, refl}
use Rattle.npnp.proofs.run.end_by_line.Goals as goal

pub returns-in-Ok : goal.returns-in-Ok
returns-in-Ok c = inl (refl, c.in-Ok.ensures)

pub returns-in-Err : goal.returns-in-Err
returns-in-Err c = inr refl
