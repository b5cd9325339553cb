-- The search goes on from candidate to candidate, for each of which it begins again.
use Rattle.learn_solver.proofs.PursuitLemmas.{can_go, gone_none, gone_on, gone_keeping, gone_with, stopped_on}
use Rattle.learn_solver.proofs.RunLemmas.{can_move}
use Rattle.learn_solver.proofs.solver.Solver.follow.Goals as goal

pub narrow-requires : goal.narrow-requires
narrow-requires g c = can_move c.loop-candidate.self c.loop-candidate.search c.loop-candidate.invariant.answer_is

pub pursue-requires : goal.pursue-requires
pursue-requires g c = can_go (gone_keeping c.loop-candidate.invariant c.narrow.ensures)

pub returns-in_err-found-clause-stop : goal.returns-in_err-found-clause-stop
returns-in_err-found-clause-stop g c = stopped_on c.pursue.new.self (g.L.Charge.charging c.pursue.new.ledger) c.from_residual.result c.in_err-found.field-0.0 c.loop-candidate.invariant c.in_err-found.ensures.stop c.from_residual.ensures.1

pub returns-in-Some-clause-gone : goal.returns-in-Some-clause-gone
returns-in-Some-clause-gone g c = gone_on c.loop-candidate.invariant (gone_with c.in_ok-found.ensures.gone c.in-Some.is)

pub loop-candidate-init : goal.loop-candidate-init
loop-candidate-init g c = gone_none c.requires

pub loop-candidate-preserved : goal.loop-candidate-preserved
loop-candidate-preserved g c = gone_on c.loop-candidate.invariant (gone_with c.in_ok-found.ensures.gone c.in_default.is)
