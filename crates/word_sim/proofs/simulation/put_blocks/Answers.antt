-- The constant's block stands at the front, and then the inputs' blocks.
use Rattle.std.proofs.Common.{◌+◌, ◌<◌, ◌∙◌, length, replicate, arith}
use Rattle.std.proofs.lemmas.List.{length-set}
use Rattle.word_sim.proofs.Rows.{put_block-step, put_zero}
use Rattle.word_sim.proofs.simulation.put_blocks.Goals as goal

pub loop-column-init : goal.loop-column-init
loop-column-init c =
    (λ k h. put_zero c.args.values.now k h (omega (arith, c.requires.room)), length-set c.args.values.now 0 (replicate 8 0))

pub loop-column-preserved : goal.loop-column-preserved
loop-column-preserved c =
    let l = c.loop-column in
    let columns = c.args.inputs.now.columns in
    let here : l.column < length columns = omega (arith, c.loop-column-test.true, c.columns-column-end.ensures.value) in (
      λ k h. put_block-step columns l.values c.block.result l.column c.args.word k here (omega (arith, l.invariant.1, c.requires.room)) (c.block.ensures.words k h) (l.invariant.0 k h),
      length-set l.values (l.column + 1) c.block.result ∙ l.invariant.1,
    )
