use Rattle.std.proofs.Common.{take, All}
use Rattle.account_core.specs.Assigned.{StandsBefore}
use Rattle.ban_book.proofs.needed.place_for.Given as goal

abbrev pub invariant-loop-place : goal.invariant-loop-place
invariant-loop-place l = All (λ other. StandsBefore other l.pair) (take l.place l.pairs)
