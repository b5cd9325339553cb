-- The lowest bit that is 1 is the number of zeros below it.
use Rattle.std.proofs.Common.{◌<◌, ap, eqb, arith, w64}
use Rattle.std.proofs.lemmas.Nat.Bits.{bit_at-trailing_zeros}
use Rattle.word_sim.proofs.blocks.first_lane.Goals as goal

pub returns : goal.returns
returns c =
    let positive : 0 < c.args.word = omega (arith, c.if-word-eq0.false) in
    let lowest = bit_at-trailing_zeros w64 c.args.word positive c.ranges.word.fits in
    (lowest.0, ap (λ n. eqb n 1) lowest.1)
