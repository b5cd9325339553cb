use Rattle.std.proofs.Common.{take}
use Rattle.refusal_core.specs.Marks.{Adds}
use Rattle.refusal_core.proofs.marking.mark_all.Given as goal

abbrev pub invariant-loop-number : goal.invariant-loop-number
invariant-loop-number l = Adds (take l.number-index l.numbers) l.fn.marks.items l.marks.items
