use Rattle.std.proofs.Common.{sym, ap, subst}
use Rattle.std.specs.List.{filter}
use Rattle.net_file.proofs.StopLemmas.{stop_passed}
use Rattle.blif_reader.specs.JoinedLines.{has_words, joined_lines}
use Rattle.blif_reader.specs.Faults.{IsLineFault}
use Rattle.blif_reader.specs.Surveys.{IsUnderWay}
use Rattle.blif_reader.proofs.SurveyLemmas.{under_way_more, first_fault}
use Rattle.blif_reader.proofs.survey.survey_lines.Goals as goal

pub loop-first-preserved : goal.loop-first-preserved
loop-first-preserved c =
    let all = joined_lines (record { bytes = c.args.input.now; at = 0 }) in
    let here = subst (IsUnderWay all c.loop-first.survey) c.in-Some.ensures c.loop-first.invariant in
    let more = under_way_more all _ _ c.loop-first.survey c.read_line.new.self here c.in_ok-read_line.ensures.advances in
    subst (IsUnderWay all c.read_line.new.self) (ap (filter has_words) (sym c.in_ok-read_line.ensures.lines)) more

pub returns-in_err-read_line-clause-stop : goal.returns-in_err-read_line-clause-stop
returns-in_err-read_line-clause-stop c =
    let all = joined_lines (record { bytes = c.args.input.now; at = 0 }) in
    let here = subst (IsUnderWay all c.loop-first.survey) c.in-Some.ensures c.loop-first.invariant in
    stop_passed c.read_line.result _ _ _ _ c.in_err-read_line.was c.from_residual.ensures.1 c.read_line.ensures.stop (λ kind at is. subst (IsLineFault all kind) (sym is.1) (first_fault all _ _ _ c.loop-first.survey kind here is.0))
