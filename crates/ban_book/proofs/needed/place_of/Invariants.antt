use Rattle.std.proofs.Common.{◌≢◌, take, All}
use Rattle.ban_book.proofs.needed.place_of.Given as goal

abbrev pub invariant-loop-place : goal.invariant-loop-place
invariant-loop-place l = All (λ other. other ≢ l.pair) (take l.place l.pairs)
