-- A bit is picked where the other block's bit has the value.
use Rattle.sim_signature.specs.Blocks.{block_bit}
use Rattle.sim_signature.proofs.Picking.{picks}
use Rattle.sim_signature.proofs.lanes.picked.Goals as goal

pub returns : goal.returns
returns c w v h l = rw (c.and_lanes.ensures.bits w v h l) (picks (block_bit w v c.args.block) (block_bit w v c.args.column) c.args.value)
