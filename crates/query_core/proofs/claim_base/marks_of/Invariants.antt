-- The numbers so far are marked.
use Rattle.std.proofs.Common.{◌≡◌, take}
use Rattle.bit_list.specs.Marking.{listed_marks}
use Rattle.query_core.proofs.claim_base.marks_of.Given as goal

abbrev pub invariant-loop-number : goal.invariant-loop-number
invariant-loop-number l = l.marks ≡ listed_marks l.count (take l.number-index l.numbers)
