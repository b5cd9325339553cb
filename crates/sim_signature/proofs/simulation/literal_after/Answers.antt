-- The literal's bit is its signal's after the change, with its sign.
use Rattle.std.proofs.Common.{sym}
use Rattle.sim_signature.proofs.simulation.literal_after.Goals as goal

pub returns : goal.returns
returns c w v h l = rw (sym c.signal.ensures, sym c.is_negated.ensures, sym c.block_after-block.ensures) (c.signed_lanes.ensures.bits w v h l)
