use Rattle.std.proofs.Common.{◌≡◌, take}
use Rattle.account_trim.specs.Lowered.{marks_at}
use Rattle.account_trim.proofs.lowering.marks_at.Given as goal

abbrev pub invariant-loop-place : goal.invariant-loop-place
invariant-loop-place l = l.found.items ≡ marks_at l.marks (take l.place-index l.places)
