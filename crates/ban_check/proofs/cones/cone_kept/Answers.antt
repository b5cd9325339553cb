use Rattle.ban_check.proofs.ConeLemmas.{got_cone}
use Rattle.ban_check.proofs.cones.cone_kept.Goals as goal

pub returns : goal.returns
returns c = got_cone c.args.cones.now.by_output.entries c.args.output c.get.result c.get.ensures.value
