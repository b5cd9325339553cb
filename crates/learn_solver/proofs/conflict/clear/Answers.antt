use Rattle.std.proofs.Common.{◌≡◌, length, subst, arith}
use Rattle.learn_solver.proofs.ClearLemmas.{IsClearing, clearing_done}
use Rattle.learn_solver.proofs.conflict.clear.Goals as goal

pub returns : goal.returns
returns c =
    let t = c.args.trail.now in
    let marked = c.loop-place.marked in
    let all : c.loop-place.place ≡ length t.entries = omega (arith, c.loop-place.auto.place-end, c.loop-place-test.false, c.len-place-end.ensures.value) in
    clearing_done t marked (subst (IsClearing t marked) all c.loop-place.invariant)
