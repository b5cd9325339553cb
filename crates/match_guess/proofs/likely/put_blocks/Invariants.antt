use Rattle.std.proofs.Common.{◌≡◌, length}
use Rattle.match_guess.proofs.likely.put_blocks.Given as goal

abbrev pub invariant-loop-column : goal.invariant-loop-column
invariant-loop-column l = length l.values ≡ length l.fn.values
