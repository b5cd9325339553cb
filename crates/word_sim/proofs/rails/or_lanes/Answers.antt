-- Each lane has the OR of the two words.
use Rattle.std.proofs.Common.{bit_or}
use Rattle.net_core.proofs.ValueLemmas.{zipped}
use Rattle.word_sim.proofs.rails.or_lanes.Goals as goal

pub returns : goal.returns
returns c = zipped 8 bit_or c.args.a c.args.b c.fits-a.0 c.fits-b.0
