-- The input isn't reached, or both claims were decided.
use Rattle.std.proofs.Common.{refl, sym, subst, ◌∙◌}
use Rattle.fact_tests.specs.Outputs.{IsDependence, function_at, inputs_in}
use Rattle.fact_tests.proofs.ClaimFacts.{dependence_is}
use Rattle.fact_tests.proofs.ReachLemmas.{unreached_outside}
use Rattle.fact_tests.proofs.Serving.{served_one, served_then, serves_err, serves_ok}
use Rattle.fact_tests.proofs.unate_test.unateness.Goals as goal

pub returns-then-not-reaches-clause-unate : goal.returns-then-not-reaches-clause-unate
returns-then-not-reaches-clause-unate g c =
    unreached_outside c.args.output.now.graphs.now.first c.args.output.now.number c.args.input c.requires.may.first.ordered c.requires.output.there (sym c.reaches.ensures ∙ c.if-not-reaches.true)

pub returns-in_err-never_rises-clause-serves : goal.returns-in_err-never_rises-clause-serves
returns-in_err-never_rises-clause-serves g c =
    serves_err _ _ _ _ _ _ _ c.in_err-never_rises.field-0.0 c.from_residual-in_err-never_rises.ensures.1 (served_one _ _ _ _ _ c.in_ok-never_falls.ensures.serves) c.in_err-never_rises.ensures.serves

pub returns-clause-serves : goal.returns-clause-serves
returns-clause-serves g c =
    serves_ok _ _ _ _ _ _ refl (served_then _ _ _ _ _ _ (served_one _ _ _ _ _ c.in_ok-never_falls.ensures.serves) (served_one _ _ _ _ _ c.in_ok-never_rises.ensures.serves))

pub returns-clause-unate : goal.returns-clause-unate
returns-clause-unate g c =
    let graphs = c.args.output.now.graphs.now in
    let k = c.args.output.now.number in
    subst (IsDependence (inputs_in graphs) (function_at graphs k) c.args.input) (sym c.by_claims.ensures) (dependence_is graphs.first k c.args.input c.in_ok-never_falls.never_falls c.in_ok-never_rises.never_rises c.requires.input c.in_ok-never_falls.ensures.told c.in_ok-never_rises.ensures.told)
