-- One input more is decided.
use Rattle.std.proofs.Common.{arith, ap, ◌∙◌}
use Rattle.circuits.specs.Netlists.{Net}
use Rattle.fact_tests.specs.Outputs.{function_at, inputs_in}
use Rattle.fact_tests.proofs.RowLemmas.{support_step}
use Rattle.fact_tests.proofs.Serving.{served_one, served_then, serves_err}
use Rattle.fact_tests.proofs.func_support.support.Goals as goal

pub returns-in_err-unate-clause-serves : goal.returns-in_err-unate-clause-serves
returns-in_err-unate-clause-serves g c =
    serves_err _ _ _ _ _ _ _ c.in_err-unate.field-0.0 c.from_residual.ensures.1 c.loop-input.invariant.0 c.in_err-unate.ensures.serves

pub loop-input-preserved : goal.loop-input-preserved
loop-input-preserved g c =
    let graphs = c.args.output.now.graphs.now in (
      served_then _ _ _ _ _ _ c.loop-input.invariant.0 (served_one _ _ _ _ _ c.in_ok-unate.ensures.serves),
      support_step (inputs_in graphs) (function_at graphs c.args.output.now.number) c.loop-input.input c.loop-input.entries c.note.new.entries c.in_ok-unate.unate
          c.loop-input.invariant.1 (omega (arith, c.loop-input-test.true, c.inputs-inputs.ensures.value ∙ ap (λ (net : Net). net.inputs) c.first.ensures.value)) c.in_ok-unate.ensures.unate c.in_ok-note.ensures,
    )
