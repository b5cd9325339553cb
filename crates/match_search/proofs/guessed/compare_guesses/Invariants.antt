use Rattle.match_search.specs.States.{HasServed}
use Rattle.match_search.proofs.guessed.compare_guesses.Given as goal

abbrev pub invariant-loop-count : goal.invariant-loop-count
invariant-loop-count g l = HasServed (g.O.Oracle.known l.fn.oracle) (g.O.Oracle.known l.oracle) l.fn.ledger l.ledger
