-- What the files say is reported.
use Rattle.std.proofs.lemmas.Result.{err_from_is_err_and}
use Rattle.check_steps.specs.declared.files.ReadStop.TheVariants as stop
use Rattle.check_steps.specs.declared.outcome.Outcome.TheVariants.{Memory}
use Rattle.check_steps.proofs.CheckingLemmas.{check_stopped, judged_well}
use Rattle.check_steps.proofs.ReadLemmas.{stop_reading}
use Rattle.check_steps.proofs.checking.check_files.Goals as goal

pub returns-in_err-judgement : goal.returns-in_err-judgement
returns-in_err-judgement g c =
    let p = err_from_is_err_and c.from_residual.result c.from_residual.ensures.1 in
    let o = c.in_err-judgement.field-0.0 in
    check_stopped _ _ _ _ _ o (cc (p.1, p.2)) c.judge_files.ensures.files
    c.in_err-judgement.ensures.right
    c.in_err-judgement.ensures.early
    c.judge_files.ensures.last
    (λ e. c.judge_files.ensures.failed (cc (e, c.in_err-judgement.was)))

pub report_named-requires : goal.report_named-requires
report_named-requires g c = c.in_ok-judgement.ensures.matches

pub returns-in_err-report : goal.returns-in_err-report
returns-in_err-report g c =
    let p = err_from_is_err_and c.from_residual-in_err-report.result c.from_residual-in_err-report.ensures.1 in
    check_stopped _ _ _ _ _ Memory (cc (p.1, p.2)) c.judge_files.ensures.files
    (λ tells words asks. tt)
    (stop_reading stop.Memory)
    c.judge_files.ensures.last
    (λ e. cc)

pub returns : goal.returns
returns g c = judged_well _ _ _ _ _ _ c.in_ok-judgement.ensures c.in_ok-report.ensures
