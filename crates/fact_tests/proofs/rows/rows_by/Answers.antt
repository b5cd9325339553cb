-- One output more has its row.
use Rattle.fact_tests.specs.Outputs.{function_at, inputs_in}
use Rattle.claim_core.specs.Rows.{IsRow}
use Rattle.fact_tests.proofs.RowLemmas.{rows_step}
use Rattle.fact_tests.proofs.Serving.{served_one, served_then, serves_err, serves_memory}
use Rattle.fact_tests.proofs.rows.rows_by.Goals as goal

pub returns-in_err-row-clause-serves : goal.returns-in_err-row-clause-serves
returns-in_err-row-clause-serves g c =
    serves_err _ _ _ _ _ _ _ c.in_err-row.field-0.0 c.from_residual.ensures.1 c.loop-number.invariant.0 c.in_err-row.ensures.serves

pub returns-in_err-push-clause-serves : goal.returns-in_err-push-clause-serves
returns-in_err-push-clause-serves g c =
    serves_memory _ _ _ _ _ c.from_residual-in_err-push.ensures.1 (served_then _ _ _ _ _ _ c.loop-number.invariant.0 (served_one _ _ _ _ _ c.in_ok-row.ensures.serves))

pub loop-number-preserved : goal.loop-number-preserved
loop-number-preserved g c =
    let graphs = c.args.graphs.now in
    let rows = rows_step (λ k row. IsRow (inputs_in graphs) (function_at graphs k) row) c.loop-number.rows.items c.push.new.self.items c.in_ok-row.row c.loop-number.number c.loop-number.invariant.1 c.loop-number.invariant.2 c.in_ok-row.ensures.row c.in_ok-push.ensures.items in
    (served_then _ _ _ _ _ _ c.loop-number.invariant.0 (served_one _ _ _ _ _ c.in_ok-row.ensures.serves), rows.0, rows.1)
