-- The search goes on from step to step.
use Rattle.learn_solver.proofs.PursuitLemmas.{gone_none, gone_on, gone_with, stopped_on}
use Rattle.learn_solver.proofs.solver.Solver.pursue.Goals as goal

pub returns-in_err-found-clause-stop : goal.returns-in_err-found-clause-stop
returns-in_err-found-clause-stop g c = stopped_on c.advance.new.self (g.L.Charge.charging c.advance.new.ledger) c.from_residual.result c.in_err-found.field-0.0 c.loop-alloc.invariant c.in_err-found.ensures.stop c.from_residual.ensures.1

pub returns-in-Some-clause-gone : goal.returns-in-Some-clause-gone
returns-in-Some-clause-gone g c = gone_on c.loop-alloc.invariant (gone_with c.in_ok-found.ensures.gone c.in-Some.is)

pub loop-alloc-init : goal.loop-alloc-init
loop-alloc-init g c = gone_none c.requires

pub loop-alloc-preserved : goal.loop-alloc-preserved
loop-alloc-preserved g c = gone_on c.loop-alloc.invariant (gone_with c.in_ok-found.ensures.gone c.in_default.is)
