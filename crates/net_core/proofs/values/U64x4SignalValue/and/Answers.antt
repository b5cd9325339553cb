-- Each lane has the AND of the two words.
use Rattle.std.proofs.Common.{bit_and}
use Rattle.net_core.proofs.ValueLemmas.{zipped}
use Rattle.net_core.proofs.values.U64x4SignalValue.and.Goals as goal

pub returns : goal.returns
returns c = zipped 4 bit_and c.args.self c.args.other c.fits-self.0 c.fits-other.0
