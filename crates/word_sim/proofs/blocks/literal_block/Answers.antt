-- A lane of a signal's block is the signal's word in that lane's row.
use Rattle.std.proofs.Common.{◌∙◌, [], length, get_or, ap}
use Rattle.std.proofs.lemmas.List.FromFn.{length-map-range_with_len}
use Rattle.circuits.specs.Literals.{is_negated, signal_of}
use Rattle.net_core.specs.Values.{blocks, words}
use Rattle.net_core.proofs.ValueLemmas.{literal_kept}
use Rattle.word_sim.specs.Columns.{signed_word, word_of}
use Rattle.word_sim.proofs.Rows.{block-words}
use Rattle.word_sim.proofs.blocks.literal_block.Goals as goal

pub returns-clause-lanes : goal.returns-clause-lanes
returns-clause-lanes c =
    let literal = c.args.literal in
    let block = get_or c.args.values.now (signal_of literal) [] in
    ap length c.literal_value.ensures ∙ length-map-range_with_len (λ l. signed_word (word_of l block) (is_negated literal)) 0 8

pub returns-clause-words : goal.returns-clause-words
returns-clause-words c l h =
    ap (word_of l) c.literal_value.ensures ∙ literal_kept (blocks 8) words (word_of l) (block-words l h) c.args.values.now c.args.literal
