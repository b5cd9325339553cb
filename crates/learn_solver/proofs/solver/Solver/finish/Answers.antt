-- The search goes on from step to step.
use Rattle.learn_solver.proofs.PursuitLemmas.{ended_with, gone_none, gone_on, gone_with, stopped_on}
use Rattle.learn_solver.proofs.solver.Solver.finish.Goals as goal

pub returns-in_err-found-clause-stop : goal.returns-in_err-found-clause-stop
returns-in_err-found-clause-stop g c = stopped_on c.advance.new.self (g.L.Charge.charging c.advance.new.ledger) c.from_residual.result c.in_err-found.field-0.0 c.loop-found.invariant c.in_err-found.ensures.stop c.from_residual.ensures.1

pub returns-in-Some-clause-ended : goal.returns-in-Some-clause-ended
returns-in-Some-clause-ended g c = ended_with (gone_on c.loop-found.invariant (gone_with c.in_ok-found.ensures.gone c.in-Some.is))

pub loop-found-init : goal.loop-found-init
loop-found-init g c = gone_none c.requires

pub loop-found-preserved : goal.loop-found-preserved
loop-found-preserved g c = gone_on c.loop-found.invariant (gone_with c.in_ok-found.ensures.gone c.in_default.is)
