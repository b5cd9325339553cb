-- One input more, and all of them.
use Rattle.std.proofs.Common.{◌≡◌, ◌<◌, length, subst, arith}
use Rattle.query_core.proofs.ReachingLemmas.{AreDiffering, differing_more, differing_whole, input_differs}
use Rattle.query_core.proofs.reaching.marked_inputs.Goals as goal

pub loop-input-preserved : goal.loop-input-preserved
loop-input-preserved c =
    let left = c.args.left.now in
    let right = c.args.right.now in
    let i = c.loop-input.input in
    let within : i < length left = omega (arith, c.loop-input-test.true, c.len-input-end.ensures) in
    let differs = input_differs left right i c.get.result c.get-in-loop-input.result c.ne.result c.requires.feeds within c.get.ensures c.get-in-loop-input.ensures c.ne.ensures in
    differing_more left right c.args.signals i c.ne.result c.loop-input.marked c.mark_where.new.self c.requires.room within differs c.in_ok-mark_where.ensures.marked c.loop-input.invariant

pub returns-clause-start : goal.returns-clause-start
returns-clause-start c =
    let left = c.args.left.now in
    let all : c.loop-input.input ≡ length left = omega (arith, c.loop-input.auto.input-end, c.loop-input-test.false, c.len-input-end.ensures) in
    differing_whole left c.args.right.now c.args.signals c.loop-input.marked c.requires.feeds c.requires.room (subst (λ n. AreDiffering left c.args.right.now c.args.signals n c.loop-input.marked) all c.loop-input.invariant)
