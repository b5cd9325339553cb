-- The pairs so far stand in turn.
use Rattle.ban_check.proofs.OrderLemmas.{AreInTurn}
use Rattle.ban_check.proofs.ports.stand_in_turn.Given as goal

abbrev pub invariant-loop-k : goal.invariant-loop-k
invariant-loop-k l = AreInTurn l.pairs l.k
