-- The pairs before the next one are listed.
use Rattle.claim_core.specs.Rows.{ListsPairs}
use Rattle.fact_tests.specs.Outputs.{function_at, input_at, inputs_in}
use Rattle.fact_tests.proofs.symmetric_pairs.add_pairs.Given as goal

abbrev pub invariant-loop-other : goal.invariant-loop-other
invariant-loop-other l =
    let n = inputs_in l.output.graphs.now in
    ListsPairs n (function_at l.output.graphs.now l.output.number) (input_at n l.support l.place) (input_at n l.support l.other) l.pairs
