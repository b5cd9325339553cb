-- The support and the pairs were decided.
use Rattle.std.proofs.Common.{refl}
use Rattle.fact_tests.proofs.Serving.{served_one, served_then, serves_err, serves_ok}
use Rattle.fact_tests.proofs.rows.row.Goals as goal

pub returns-in_err-pairs-clause-serves : goal.returns-in_err-pairs-clause-serves
returns-in_err-pairs-clause-serves g c =
    serves_err _ _ _ _ _ _ _ c.in_err-pairs.field-0.0 c.from_residual-in_err-pairs.ensures.1 (served_one _ _ _ _ _ c.in_ok-support.ensures.serves) c.in_err-pairs.ensures.serves

pub returns-clause-serves : goal.returns-clause-serves
returns-clause-serves g c =
    serves_ok _ _ _ _ _ _ refl (served_then _ _ _ _ _ _ (served_one _ _ _ _ _ c.in_ok-support.ensures.serves) (served_one _ _ _ _ _ c.in_ok-pairs.ensures.serves))
