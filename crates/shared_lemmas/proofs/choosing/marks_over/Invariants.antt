-- The lines so far have a mark each.
use Rattle.std.proofs.Common.{◌≡◌, length}
use Rattle.shared_lemmas.proofs.choosing.marks_over.Given as goal

abbrev pub invariant-loop-line : goal.invariant-loop-line
invariant-loop-line l = length l.marked.items ≡ l.line-index
