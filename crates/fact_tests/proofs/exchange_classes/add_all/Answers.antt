-- One input more is sorted.
use Rattle.std.proofs.Common.{refl}
use Rattle.fact_tests.specs.Outputs.{function_at, inputs_in}
use Rattle.fact_tests.proofs.ClassLemmas.{classes_at, sorts_more, sorts_none}
use Rattle.fact_tests.proofs.Serving.{served_none, served_one, served_then, serves_err}
use Rattle.fact_tests.proofs.exchange_classes.add_all.Goals as goal

pub loop-entry-init : goal.loop-entry-init
loop-entry-init g c =
    let graphs = c.args.output.now.graphs.now in (
      served_none _ _ _ c.requires.may,
      sorts_none (inputs_in graphs) (function_at graphs c.args.output.now.number) c.args.support.now c.args.sorted.now c.requires.classes c.requires.places,
    )

pub add-requires-clause-classes : goal.add-requires-clause-classes
add-requires-clause-classes g c =
    let graphs = c.args.output.now.graphs.now in
    classes_at (inputs_in graphs) (function_at graphs c.args.output.now.number) c.args.support.now c.loop-entry.entry-index _ c.loop-entry.sorted c.loop-entry-test.true refl c.loop-entry.invariant.1

pub returns-in_err-add-clause-serves : goal.returns-in_err-add-clause-serves
returns-in_err-add-clause-serves g c =
    serves_err _ _ _ _ _ _ _ c.in_err-add.field-0.0 c.from_residual.ensures.1 c.loop-entry.invariant.0 c.in_err-add.ensures.serves

pub loop-entry-preserved : goal.loop-entry-preserved
loop-entry-preserved g c =
    let graphs = c.args.output.now.graphs.now in (
      served_then _ _ _ _ _ _ c.loop-entry.invariant.0 (served_one _ _ _ _ _ c.in_ok-add.ensures.serves),
      sorts_more (inputs_in graphs) (function_at graphs c.args.output.now.number) c.args.support.now c.loop-entry.entry-index _ c.loop-entry.sorted c.add.new.sorted
          c.requires.support c.loop-entry-test.true refl c.loop-entry.invariant.1 c.in_ok-add.ensures.adds,
    )
