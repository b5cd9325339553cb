-- The declarations, the gates, the outputs and the last line are the file.
use Rattle.std.proofs.Common.{◌++◌, ap₂, sym, ◌∙◌}
use Rattle.net_print.specs.BlifLines.{gates_lines, outputs_lines, words_text}
use Rattle.net_print.proofs.Parts.{blif_parts}
use Rattle.net_print.proofs.blif.BlifParts.new.Goals as goal

pub returns : goal.returns
returns c =
    let outputs = c.new-outputs.ensures ∙ ap₂ (λ n ls. words_text (outputs_lines n 0 ls)) c.inputs.ensures.value c.outputs.ensures.value in
    let gates = c.new-gates.ensures ∙ ap₂ (λ n gs. words_text (gates_lines n 0 gs)) c.inputs-2.ensures.value c.gates.ensures.value in
    let last = c.new-last.ensures ∙ ap₂ (λ xs ys. xs ++ ys) outputs c.new.ensures in
    let covers = c.new-covers.ensures ∙ ap₂ (λ xs ys. xs ++ ys) gates last in
    c.new-2.ensures
    ∙ ap₂ (λ xs ys. xs ++ ys) c.declarations_of.ensures covers
    ∙ sym (blif_parts c.args.graph.now)
