-- The inputs are symmetric, or the other way was decided.
use Rattle.std.proofs.Common.{refl, sym, subst}
use Rattle.fact_tests.specs.Exchanges.{IsWay}
use Rattle.fact_tests.specs.Outputs.{function_at, inputs_in}
use Rattle.fact_tests.proofs.ClassLemmas.{way_skew, way_symmetric}
use Rattle.fact_tests.proofs.Serving.{served_one, served_then, serves_err, serves_ok}
use Rattle.fact_tests.proofs.exchange_classes.way_of.Goals as goal

pub returns-then-symmetric-clause-way : goal.returns-then-symmetric-clause-way
returns-then-symmetric-clause-way g c =
    let graphs = c.args.output.now.graphs.now in
    way_symmetric (inputs_in graphs) (function_at graphs c.args.output.now.number) c.args.first.0 c.args.second.0 c.in_ok-symmetric.symmetric c.if-symmetric.true c.in_ok-symmetric.ensures.told

pub returns-in_err-skew-clause-serves : goal.returns-in_err-skew-clause-serves
returns-in_err-skew-clause-serves g c =
    serves_err _ _ _ _ _ _ _ c.in_err-skew.field-0.0 c.from_residual-in_err-skew.ensures.1 (served_one _ _ _ _ _ c.in_ok-symmetric.ensures.serves) c.in_err-skew.ensures.serves

pub returns-clause-serves : goal.returns-clause-serves
returns-clause-serves g c =
    serves_ok _ _ _ _ _ _ refl (served_then _ _ _ _ _ _ (served_one _ _ _ _ _ c.in_ok-symmetric.ensures.serves) (served_one _ _ _ _ _ c.in_ok-skew.ensures.serves))

pub returns-clause-way : goal.returns-clause-way
returns-clause-way g c =
    let graphs = c.args.output.now.graphs.now in
    let f = function_at graphs c.args.output.now.number in
    subst (IsWay (inputs_in graphs) f c.args.first.0 c.args.second.0) (sym c.skew_by.ensures)
    (way_skew (inputs_in graphs) f c.args.first.0 c.args.second.0 c.in_ok-symmetric.symmetric c.in_ok-skew.skew c.if-symmetric.false c.in_ok-symmetric.ensures.told c.in_ok-skew.ensures.told)
