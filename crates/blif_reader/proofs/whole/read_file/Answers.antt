use Rattle.std.proofs.Common.{length, ap, arith, inl, inr}
use Rattle.net_file.proofs.StopLemmas.{stop_passed}
use Rattle.blif_reader.specs.Blif.{blif_lines}
use Rattle.blif_reader.proofs.BlifLemmas.{all_known}
use Rattle.blif_reader.proofs.FewNames.{few_names}
use Rattle.blif_reader.proofs.whole.read_file.Goals as goal

pub read_covers-requires-clause-few : goal.read_covers-requires-clause-few
read_covers-requires-clause-few c =
    omega (arith, c.requires, few_names c.args.input.now, ap length c.in_ok-names.ensures.numbered.1)

pub check_limits-requires-clause-known : goal.check_limits-requires-clause-known
check_limits-requires-clause-known c =
    all_known (blif_lines c.args.input.now) c.in_ok-names.ensures.numbered.0 c.in_ok-covers.ensures.built.known

pub name_net-requires-clause-signals : goal.name_net-requires-clause-signals
name_net-requires-clause-signals c = omega (arith, c.requires, few_names c.args.input.now)

pub returns-in_err-survey-clause-stop : goal.returns-in_err-survey-clause-stop
returns-in_err-survey-clause-stop c =
    stop_passed c.survey_lines.result _ _ _ _ c.in_err-survey.was c.from_residual.ensures.1 c.survey_lines.ensures.stop (λ kind at is. inl is)

pub returns-in_err-covers-clause-stop : goal.returns-in_err-covers-clause-stop
returns-in_err-covers-clause-stop c =
    stop_passed c.read_covers.result _ _ _ _ c.in_err-covers.was c.from_residual-in_err-covers.ensures.1 c.read_covers.ensures.stop (λ kind at is. inr (inr (inr (inr (inl is)))))
