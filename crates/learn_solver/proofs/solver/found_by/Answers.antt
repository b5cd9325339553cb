-- A search that was begun is started, is prepared and goes on to its end.
use Rattle.learn_solver.proofs.AdvanceLemmas.{running_first}
use Rattle.learn_solver.proofs.PursuitLemmas.{can_go, ended_on, gone_with, stopped_on}
use Rattle.learn_solver.proofs.solver.found_by.Goals as goal

pub prepare-requires : goal.prepare-requires
prepare-requires g c = record {
  running = running_first c.args.solver.now c.args.search.now c.start.new.self c.requires.begun c.in_default.ensures.none c.start.ensures.tools c.requires.unrefuted;
  asking = c.requires.asking;
}

pub finish-requires : goal.finish-requires
finish-requires g c = can_go (gone_with c.in_ok-early.ensures.gone c.in_default-2.is)

pub returns-in_err-found-clause-stop : goal.returns-in_err-found-clause-stop
returns-in_err-found-clause-stop g c = stopped_on c.finish.new.self (g.L.Charge.charging c.finish.new.ledger) c.from_residual-in_err-found.result c.in_err-found.field-0.0 (gone_with c.in_ok-early.ensures.gone c.in_default-2.is) c.in_err-found.ensures.stop c.from_residual-in_err-found.ensures.1

pub returns-clause-ended : goal.returns-clause-ended
returns-clause-ended g c = ended_on (gone_with c.in_ok-early.ensures.gone c.in_default-2.is) c.in_ok-found.ensures.ended
