-- Each lane has the word's bits, inverted where the flag says so.
use Rattle.std.proofs.Common.{◌∙◌, length, ap}
use Rattle.std.proofs.lemmas.List.FromFn.{length-map-range_with_len}
use Rattle.net_core.proofs.ValueLemmas.{lane_of_signed}
use Rattle.word_sim.specs.Columns.{signed_word, word_bit, word_of}
use Rattle.word_sim.proofs.Lanes.{inverted-bit}
use Rattle.word_sim.proofs.blocks.signed_lanes.Goals as goal

pub returns-clause-lanes : goal.returns-clause-lanes
returns-clause-lanes c = ap length c.signed.ensures ∙ length-map-range_with_len (λ l. signed_word (word_of l c.args.lanes) c.args.flip) 0 8

pub returns-clause-words : goal.returns-clause-words
returns-clause-words c l h = ap (word_of l) c.signed.ensures ∙ lane_of_signed 8 c.args.lanes c.args.flip l h

pub returns-clause-bits : goal.returns-clause-bits
returns-clause-bits c l v h k = ap (word_bit v) (returns-clause-words c l h) ∙ inverted-bit v (word_of l c.args.lanes) c.args.flip k
