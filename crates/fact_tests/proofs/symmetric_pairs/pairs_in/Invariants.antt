-- The pairs before those of the next input are listed.
use Rattle.claim_core.specs.Rows.{ListsPairs}
use Rattle.fact_tests.specs.Outputs.{function_at, input_at, inputs_in}
use Rattle.fact_tests.proofs.symmetric_pairs.pairs_in.Given as goal

abbrev pub invariant-loop-place : goal.invariant-loop-place
invariant-loop-place l = ListsPairs (inputs_in l.output.graphs.now) (function_at l.output.graphs.now l.output.number) (input_at (inputs_in l.output.graphs.now) l.support l.place) 0 l.pairs
