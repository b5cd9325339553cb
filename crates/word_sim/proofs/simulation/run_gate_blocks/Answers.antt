-- Each row has the words of the gates.
use Rattle.std.proofs.Common.{◌∙◌, ap, map, sym, take}
use Rattle.std.proofs.lemmas.List.{take-map}
use Rattle.net_core.specs.Values.{blocks, words}
use Rattle.net_core.proofs.ValueLemmas.{gates_kept}
use Rattle.word_sim.specs.Columns.{with_gate_words, word_of}
use Rattle.word_sim.proofs.Rows.{block-words}
use Rattle.word_sim.proofs.simulation.run_gate_blocks.Goals as goal

pub returns-clause-rows : goal.returns-clause-rows
returns-clause-rows c l h =
    let values = c.args.values.now in
    let gates = c.args.gates.now in
    ap (map (word_of l)) c.eval_gates.ensures.values
    ∙ (gates_kept (blocks 8) words (word_of l) (block-words l h) (take c.args.first values) gates ∙ ap (λ row. with_gate_words row gates) (sym (take-map (word_of l) c.args.first values)))
