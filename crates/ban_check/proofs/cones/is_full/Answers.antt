-- No cone is kept any more.
use Rattle.ban_check.proofs.ConeLemmas.{cones_none}
use Rattle.ban_check.proofs.cones.is_full.Goals as goal

pub returns : goal.returns
returns c = cones_none c.args.graph.now c.no_cones.result.by_output.entries c.no_cones.ensures
