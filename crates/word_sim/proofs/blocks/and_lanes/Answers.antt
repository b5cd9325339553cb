-- Each lane has the AND of the two words, and so of their bits.
use Rattle.std.proofs.Common.{◌&&◌, ◌∙◌, arith, bit_and, ap}
use Rattle.std.proofs.lemmas.Simd.{get_or-zip2, length-zip2}
use Rattle.circuits.specs.Literals.{differ}
use Rattle.word_sim.specs.Columns.{signed_word, word_bit, word_of}
use Rattle.word_sim.proofs.Lanes.{and-bit, inverted-bit}
use Rattle.word_sim.proofs.blocks.and_lanes.Goals as goal

pub returns-clause-lanes : goal.returns-clause-lanes
returns-clause-lanes c =
    let one = c.signed_lanes.ensures.lanes in
    length-zip2 bit_and c.signed_lanes.result c.signed_lanes-2.result (omega (arith, one, c.signed_lanes-2.ensures.lanes)) ∙ one

pub returns-clause-words : goal.returns-clause-words
returns-clause-words c l h =
    let one = c.signed_lanes.result in
    let other = c.signed_lanes-2.result in
    get_or-zip2 bit_and one other l 0 0 0 (omega (arith, h, c.signed_lanes.ensures.lanes)) (omega (arith, h, c.signed_lanes-2.ensures.lanes))
    ∙ (ap (λ n. bit_and n (word_of l other)) (c.signed_lanes.ensures.words l h) ∙ ap (bit_and (signed_word (word_of l c.args.a) c.args.flip_a)) (c.signed_lanes-2.ensures.words l h))

pub returns-clause-bits : goal.returns-clause-bits
returns-clause-bits c l v h k =
    let one = signed_word (word_of l c.args.a) c.args.flip_a in
    let other = signed_word (word_of l c.args.b) c.args.flip_b in
    ap (word_bit v) (returns-clause-words c l h) ∙ (and-bit v one other
    ∙ (ap (λ b. b && word_bit v other) (inverted-bit v (word_of l c.args.a) c.args.flip_a k)
    ∙ ap (λ b. differ (word_bit v (word_of l c.args.a)) c.args.flip_a && b) (inverted-bit v (word_of l c.args.b) c.args.flip_b k)))
