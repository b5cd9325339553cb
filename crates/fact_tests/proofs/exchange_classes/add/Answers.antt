-- The input was put where it belongs.
use Rattle.std.proofs.Common.{refl, subst}
use Rattle.fact_tests.specs.Exchanges.{IsFound}
use Rattle.fact_tests.specs.Outputs.{function_at, inputs_in}
use Rattle.fact_tests.proofs.ClassLemmas.{added}
use Rattle.fact_tests.proofs.Serving.{served_one, serves_memory, serves_ok}
use Rattle.fact_tests.proofs.exchange_classes.add.Goals as goal

pub returns-in_err-place-clause-serves : goal.returns-in_err-place-clause-serves
returns-in_err-place-clause-serves g c =
    serves_memory _ _ _ _ _ c.from_residual-in_err-place.ensures.1 (served_one _ _ _ _ _ c.in_ok-found.ensures.serves)

pub returns-clause-serves : goal.returns-clause-serves
returns-clause-serves g c =
    serves_ok _ _ _ _ _ _ refl (served_one _ _ _ _ _ c.in_ok-found.ensures.serves)

pub returns-clause-adds : goal.returns-clause-adds
returns-clause-adds g c =
    let graphs = c.args.output.now.graphs.now in
    let n = inputs_in graphs in
    let f = function_at graphs c.args.output.now.number in
    added n f c.args.entry c.args.sorted.now c.put.new.sorted c.in_ok-found.found c.requires.entry c.requires.classes
    (subst (λ classes. IsFound n f classes c.args.entry c.in_ok-found.found) c.deref.ensures.value c.in_ok-found.ensures.found) c.in_ok-place.ensures.classes c.in_ok-place.ensures.places
