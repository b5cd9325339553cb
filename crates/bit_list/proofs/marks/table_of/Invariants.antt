-- The numbers so far are marked.
use Rattle.std.proofs.Common.{◌≡◌, take}
use Rattle.bit_list.specs.Marking.{listed_marks}
use Rattle.bit_list.proofs.marks.table_of.Given as goal

abbrev pub invariant-loop-number : goal.invariant-loop-number
invariant-loop-number l = l.table.items ≡ listed_marks l.count (take l.number-index l.numbers)
