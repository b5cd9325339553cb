-- The four swaps are added.
use Rattle.sim_signature.proofs.Wanted.{pair-added}
use Rattle.sim_signature.proofs.claims.add_swaps.Goals as goal

pub returns : goal.returns
returns c n h = pair-added n c.args.i c.args.j c.requires h c.in_ok-extend_from_slice.ensures.items
