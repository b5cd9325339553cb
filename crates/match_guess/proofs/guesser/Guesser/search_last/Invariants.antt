-- Each turn takes a state off.
use Rattle.std.proofs.Common.{vec_len}
use Rattle.match_guess.proofs.guesser.Guesser.search_last.Given as goal

abbrev pub decreases-loop-state : goal.decreases-loop-state
decreases-loop-state l = vec_len l.states
