-- One number more, and then all.
use Rattle.std.proofs.Common.{arith}
use Rattle.refusal_core.proofs.MarkLemmas.{adds_all, adds_next}
use Rattle.refusal_core.proofs.marking.mark_all.Goals as goal

pub mark-requires : goal.mark-requires
mark-requires c = omega (arith, c.loop-number.invariant.as_many, c.requires c.loop-number.number-index 0 c.loop-number-test.true)

pub loop-number-preserved : goal.loop-number-preserved
loop-number-preserved c = adds_next c.args.numbers.now c.loop-number.number-index 0 c.args.marks.now.items c.loop-number.marks.items c.mark.new.marks.items c.loop-number-test.true c.requires c.loop-number.invariant c.mark.ensures

pub returns : goal.returns
returns c = adds_all c.args.numbers.now c.loop-number.number-index c.args.marks.now.items c.loop-number.marks.items c.loop-number-test.false c.loop-number.invariant
