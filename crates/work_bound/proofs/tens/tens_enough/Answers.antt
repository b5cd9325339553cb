-- As for circuits whose ports go together.
use Rattle.std.proofs.Common.{◌+◌, length, ap, ◌∙◌, arith}
use Rattle.circuits.specs.Netlists.{Net}
use Rattle.work_bound.proofs.TensLemmas.{tens_of_graphs}
use Rattle.work_bound.proofs.tens.tens_enough.Goals as goal

pub returns : goal.returns
returns c =
    let first = c.first-first.ensures.value in
    let second = c.second.ensures.value in
    tens_of_graphs c.args.graphs.now c.from.result (length c.outputs.result.now) (length c.gates.result.now + length c.gates-2.result.now) c.tens_of_lines.result
    (c.from.ensures ∙ (c.inputs.ensures.value ∙ ap (λ (net : Net). net.inputs) first))
    (ap length (c.outputs.ensures.value ∙ ap (λ (net : Net). net.outputs) first))
    (omega (arith, ap length (c.gates.ensures.value ∙ ap (λ (net : Net). net.gates) first), ap length (c.gates-2.ensures.value ∙ ap (λ (net : Net). net.gates) second)))
    c.tens_of_lines.ensures
