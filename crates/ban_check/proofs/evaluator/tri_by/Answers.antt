use Rattle.std.proofs.Common.{sym, subst}
use Rattle.ban_check.specs.Cones.{IsConeOf}
use Rattle.ban_check.proofs.evaluator.tri_by.Goals as goal

pub cone_tri-requires-clause-cone : goal.cone_tri-requires-clause-cone
cone_tri-requires-clause-cone c =
    let kept = c.requires.cones c.args.output c.in-Some.cone.now (rw c.in-Some.is at c.cone_kept.ensures) in
    subst (IsConeOf c.args.graph.now c.args.output) (sym c.as_slice.ensures) kept
