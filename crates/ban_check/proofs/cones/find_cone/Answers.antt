use Rattle.std.proofs.Common.{sym, subst}
use Rattle.ban_check.specs.Cones.{IsConeOf}
use Rattle.ban_check.proofs.ConeLemmas.{cone_of}
use Rattle.ban_check.proofs.cones.find_cone.Goals as goal

pub returns : goal.returns
returns c =
    let told = cone_of c.args.graph.now c.args.output c.in_ok-cone.cone.items c.in_ok-cone.ensures.ascending c.in_ok-cone.ensures.there c.in_ok-cone.ensures.reached in
    subst (IsConeOf c.args.graph.now c.args.output) (sym c.from_vec.ensures) told
