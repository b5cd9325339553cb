-- One class more was tried.
use Rattle.std.proofs.Common.{refl}
use Rattle.fact_tests.specs.Outputs.{function_at, inputs_in}
use Rattle.fact_tests.proofs.ClassLemmas.{strangers_more}
use Rattle.fact_tests.proofs.Serving.{served_one, served_then, serves_err, serves_ok}
use Rattle.fact_tests.proofs.exchange_classes.find_among.Goals as goal

pub returns-in_err-found-clause-serves : goal.returns-in_err-found-clause-serves
returns-in_err-found-clause-serves g c =
    serves_err _ _ _ _ _ _ _ c.in_err-found.field-0.0 c.from_residual.ensures.1 c.loop-number.invariant.0 c.in_err-found.ensures.serves

pub returns-in-Some-clause-serves : goal.returns-in-Some-clause-serves
returns-in-Some-clause-serves g c =
    serves_ok _ _ _ _ _ _ refl (served_then _ _ _ _ _ _ c.loop-number.invariant.0 (served_one _ _ _ _ _ c.in_ok-found.ensures.serves))

pub loop-number-preserved : goal.loop-number-preserved
loop-number-preserved g c =
    let graphs = c.args.output.now.graphs.now in (
      served_then _ _ _ _ _ _ c.loop-number.invariant.0 (served_one _ _ _ _ _ c.in_ok-found.ensures.serves),
      strangers_more (inputs_in graphs) (function_at graphs c.args.output.now.number) c.args.classes.now c.args.entry c.loop-number.number c.in_ok-found.found c.in-None.is c.in_ok-found.ensures.tried c.loop-number.invariant.1,
    )
