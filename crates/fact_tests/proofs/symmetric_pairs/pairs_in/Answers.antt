-- No pairs stand before those of the first input.
use Rattle.fact_tests.specs.Outputs.{function_at, inputs_in}
use Rattle.fact_tests.proofs.RowLemmas.{first_step}
use Rattle.fact_tests.proofs.symmetric_pairs.pairs_in.Goals as goal

pub loop-place-init : goal.loop-place-init
loop-place-init c =
    let graphs = c.args.output.now.graphs.now in
    first_step (inputs_in graphs) (function_at graphs c.args.output.now.number) c.args.support.now c.new-pairs.result c.requires.support c.new-pairs.ensures
