use Rattle.std.proofs.Common.{length}
use Rattle.account_check.proofs.CheckingLemmas.{StaysUnderCheck}
use Rattle.account_check.proofs.pieces.take_all.Given as goal

abbrev pub invariant-loop : goal.invariant-loop
invariant-loop l = StaysUnderCheck l.fn.reader l.fn.checker l.reader l.checker

abbrev pub decreases-loop : goal.decreases-loop
decreases-loop l = length l.reader.left
