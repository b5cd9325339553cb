-- One number more is the new one.
use Rattle.std.proofs.Common.{◌<◌, ◌∙◌, length, arith}
use Rattle.std.proofs.lemmas.List.Edits.{map_over_more}
use Rattle.refusal_core.specs.Numbered.{at}
use Rattle.refusal_core.proofs.renumbering.put_numbers.Goals as goal

pub loop-place-preserved : goal.loop-place-preserved
loop-place-preserved c =
    let old = c.args.list.now in
    let place = c.loop-place.place in
    let below : place < length old = omega (arith, c.loop-place-test.true, c.len-place-end.ensures) in
    c.set.ensures
    ∙ map_over_more (at c.args.numbers.now) old c.loop-place.list place c.index.result.now below c.loop-place.invariant c.index.ensures
