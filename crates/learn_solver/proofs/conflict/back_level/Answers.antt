-- The first one met from the end has the greatest level.
use Rattle.std.proofs.Common.{sym, ◌∙◌, arith}
use Rattle.learn_solver.proofs.BackLevelLemmas.{passed_all, passed_found, passed_more, passed_start}
use Rattle.learn_solver.proofs.conflict.back_level.Goals as goal

pub loop-place-init : goal.loop-place-init
loop-place-init c = passed_start c.args.trail.now c.args.marked.now c.args.below

pub loop-place-preserved : goal.loop-place-preserved
loop-place-preserved c =
    passed_more c.args.trail.now c.args.marked.now c.args.below c.loop-place.place _ (omega (arith, c.loop-place-test.true)) c.loop-place.invariant (sym c.is_lower.ensures ∙ c.if-is_lower.false)

pub returns-then-is_lower : goal.returns-then-is_lower
returns-then-is_lower c =
    passed_found c.args.trail.now c.requires.trail c.args.marked.now c.args.below c.loop-place.place _ _ c.requires.within (omega (arith, c.loop-place-test.true)) c.loop-place.invariant (sym c.is_lower.ensures ∙ c.if-is_lower.true) c.level_at.ensures

pub returns : goal.returns
returns c = passed_all c.args.trail.now c.args.marked.now c.args.below c.loop-place.place (omega (arith, c.loop-place-test.false)) c.loop-place.invariant
