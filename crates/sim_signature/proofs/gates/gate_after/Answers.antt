-- Each bit is the AND of what the two literals have after the change.
use Rattle.std.proofs.Common.{sym}
use Rattle.sim_signature.proofs.gates.gate_after.Goals as goal

pub returns : goal.returns
returns c w v h l =
    rw (sym c.signal.ensures, sym c.signal-2.ensures, sym c.is_negated.ensures, sym c.is_negated-2.ensures, sym c.block_after.ensures, sym c.block_after-2.ensures) (c.and_lanes.ensures.bits w v h l)
