-- The question for a while, then the candidates, then the question from level 0 on.
use Rattle.learn_solver.proofs.PursuitLemmas.{can_go, gone_on, gone_keeping, gone_with, stopped_on}
use Rattle.learn_solver.proofs.RunLemmas.{can_move}
use Rattle.learn_solver.proofs.solver.Solver.prepare.Goals as goal

pub heed-requires : goal.heed-requires
heed-requires g c = can_move c.pursue.new.self c.pursue.new.search (gone_with c.in_ok-soon.ensures.gone c.in_default.is).answer_is

pub follow-requires : goal.follow-requires
follow-requires g c = can_go (gone_keeping (gone_with c.in_ok-soon.ensures.gone c.in_default.is) c.heed.ensures)

pub returns-in_err-found-clause-stop : goal.returns-in_err-found-clause-stop
returns-in_err-found-clause-stop g c = stopped_on c.follow.new.self (g.L.Charge.charging c.follow.new.ledger) c.from_residual-in_err-found.result c.in_err-found.field-0.0 (gone_with c.in_ok-soon.ensures.gone c.in_default.is) c.in_err-found.ensures.stop c.from_residual-in_err-found.ensures.1

pub returns-in-Some-2-clause-gone : goal.returns-in-Some-2-clause-gone
returns-in-Some-2-clause-gone g c = gone_on (gone_with c.in_ok-soon.ensures.gone c.in_default.is) (gone_with c.in_ok-found.ensures.gone c.in-Some-2.is)

pub widen-requires : goal.widen-requires
widen-requires g c = can_move c.follow.new.self c.follow.new.search (gone_with c.in_ok-found.ensures.gone c.in_default-2.is).answer_is

pub returns-clause-gone : goal.returns-clause-gone
returns-clause-gone g c = gone_keeping (gone_on (gone_with c.in_ok-soon.ensures.gone c.in_default.is) (gone_with c.in_ok-found.ensures.gone c.in_default-2.is)) c.widen.ensures
