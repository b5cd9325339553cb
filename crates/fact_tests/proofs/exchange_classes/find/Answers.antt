-- The class that is tried first, or any.
use Rattle.fact_tests.proofs.Serving.{served_one, serves_last}
use Rattle.fact_tests.proofs.exchange_classes.find.Goals as goal

pub returns-in-None-clause-serves : goal.returns-in-None-clause-serves
returns-in-None-clause-serves g c =
    serves_last _ _ _ _ _ _ _ (served_one _ _ _ _ _ c.in_ok-found.ensures.serves) c.find_among.ensures.serves
