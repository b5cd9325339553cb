-- Both ways were decided.
use Rattle.std.proofs.Common.{refl, sym, subst}
use Rattle.fact_tests.specs.Exchanges.{IsSecond}
use Rattle.fact_tests.specs.Outputs.{function_at, inputs_in}
use Rattle.fact_tests.proofs.ClassLemmas.{second_is}
use Rattle.fact_tests.proofs.Serving.{served_one, served_then, serves_err, serves_ok}
use Rattle.fact_tests.proofs.exchange_classes.pair_up.Goals as goal

pub returns-in_err-skew-clause-serves : goal.returns-in_err-skew-clause-serves
returns-in_err-skew-clause-serves g c =
    serves_err _ _ _ _ _ _ _ c.in_err-skew.field-0.0 c.from_residual-in_err-skew.ensures.1 (served_one _ _ _ _ _ c.in_ok-symmetric.ensures.serves) c.in_err-skew.ensures.serves

pub returns-clause-serves : goal.returns-clause-serves
returns-clause-serves g c =
    serves_ok _ _ _ _ _ _ refl (served_then _ _ _ _ _ _ (served_one _ _ _ _ _ c.in_ok-symmetric.ensures.serves) (served_one _ _ _ _ _ c.in_ok-skew.ensures.serves))

pub returns-clause-pair : goal.returns-clause-pair
returns-clause-pair g c =
    let graphs = c.args.output.now.graphs.now in
    let f = function_at graphs c.args.output.now.number in
    subst (IsSecond (inputs_in graphs) f c.args.first c.args.entry) (sym c.second_by.ensures) (second_is (inputs_in graphs) f c.args.first c.args.entry c.in_ok-symmetric.symmetric c.in_ok-skew.skew c.in_ok-symmetric.ensures.told c.in_ok-skew.ensures.told)
