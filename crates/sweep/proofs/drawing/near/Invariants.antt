use Rattle.std.proofs.Common.{◌≡◌, length}
use Rattle.sweep.proofs.drawing.near.Given as goal

abbrev pub invariant-loop-word : goal.invariant-loop-word
invariant-loop-word l = (length l.table.columns ≡ l.inputs) × (l.table.words ≡ length l.vectors)
