-- The constant's word stands at the front, and then the inputs' words.
use Rattle.std.proofs.Common.{◌+◌, ◌<◌, ◌∙◌, length, arith}
use Rattle.std.proofs.lemmas.List.{take_more_set, length-set}
use Rattle.word_sim.proofs.Rows.{put-step}
use Rattle.word_sim.proofs.simulation.put_row.Goals as goal

pub loop-column-init : goal.loop-column-init
loop-column-init c =
    (take_more_set c.args.values.now 0 0 (omega (arith, c.requires.room)), length-set c.args.values.now 0 0)

pub loop-column-preserved : goal.loop-column-preserved
loop-column-preserved c =
    let l = c.loop-column in
    let columns = c.args.inputs.now.columns in
    let here : l.column < length columns = omega (arith, c.loop-column-test.true, c.columns-column-end.ensures.value) in
    (put-step columns l.values l.column c.args.word c.get.result here (omega (arith, l.invariant.1, c.requires.room)) c.get.ensures l.invariant.0, length-set l.values (l.column + 1) c.get.result ∙ l.invariant.1)
