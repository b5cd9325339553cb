-- A bit that isn't 1 is 0.
use Rattle.word_sim.specs.Columns.{word_bit, word_of}
use Rattle.word_sim.proofs.DualRail.{known-rail}
use Rattle.word_sim.proofs.rails.Rails.known.Goals as goal

pub returns : goal.returns
returns c w v h l = known-rail (word_bit v (word_of w c.args.block)) (word_bit v (word_of w c.signed_lanes.result)) (c.signed_lanes.ensures.bits w v h l)
