-- Each turn takes a choice point off.
use Rattle.std.proofs.Common.{vec_len}
use Rattle.match_guess.proofs.choice_point.next_state.Given as goal

abbrev pub decreases-loop-point : goal.decreases-loop-point
decreases-loop-point l = vec_len l.points
