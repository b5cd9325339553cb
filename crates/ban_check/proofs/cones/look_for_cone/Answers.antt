-- One cone more is kept.
use Rattle.ban_check.proofs.ConeLemmas.{cones_kept}
use Rattle.ban_check.proofs.cones.look_for_cone.Goals as goal

pub returns : goal.returns
returns c =
    cones_kept c.args.graph.now c.args.output c.in_ok-cone.cone c.is_full.new.cones.by_output.entries c.keep.new.cones.entries c.keep.result c.keep.ensures.kept c.keep.ensures.refused c.in_ok-cone.ensures c.is_full.ensures
