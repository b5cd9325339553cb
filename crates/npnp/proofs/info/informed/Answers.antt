-- The rows name inputs that are there.
use Rattle.npnp.proofs.InfoLemmas.{rows_in_range}
use Rattle.npnp.proofs.info.informed.Goals as goal

pub put_info-requires-clause-inputs : goal.put_info-requires-clause-inputs
put_info-requires-clause-inputs c = rows_in_range c.args.named.now.graph c.args.rows.now c.requires
