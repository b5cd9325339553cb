-- Each lane is inverted by the mask.
use Rattle.net_core.proofs.ValueLemmas.{masked}
use Rattle.net_core.proofs.values.U64x4SignalValue.signed.Goals as goal

pub returns : goal.returns
returns c = masked 4 c.args.self c.args.flip c.mask.result c.fits-self.0 c.mask.ensures
