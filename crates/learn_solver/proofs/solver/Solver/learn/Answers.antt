-- A line is learned and charged, or refused.
use Rattle.std.proofs.Common.{subst}
use Rattle.cnf_core.specs.declared.log.LogLine.{LogLine}
use Rattle.cnf_core.specs.Charges.{IsRefused}
use Rattle.learn_solver.specs.Solvers.{IsStopped}
use Rattle.learn_solver.proofs.StepLemmas.{last_added, passed_on, stopped_one}
use Rattle.learn_solver.proofs.solver.Solver.learn.Goals as goal

pub returns-in_err-charge_last-clause-stop : goal.returns-in_err-charge_last-clause-stop
returns-in_err-charge_last-clause-stop g c =
    let charging = g.L.Charge.charging in
    let first = charging c.args.ledger.now in
    let after = charging c.charge_last.new.ledger in
    let old = c.args.self.now in
    let line = c.in_ok-line.field-0.line in
    let new = c.add.new.self in
    let stop = c.in_err-charge_last.field-0.0 in
    let added = c.in_ok-add.ensures.added in
    let refused = subst (λ (l : LogLine). IsRefused first l after stop) (last_added old new line added) c.in_err-charge_last.ensures.refused in
    passed_on c.from_residual-in_err-charge_last.result stop (IsStopped old new first after) c.from_residual-in_err-charge_last.ensures.1 (stopped_one old new line first after stop c.requires.asking added (record { derived = c.in_ok-line.ensures.lesson.good; fresh = c.in_ok-line.ensures.lesson.fresh }) refused)
