-- Blocks of 153 threes, and what is left.
use Rattle.work_bound.proofs.TensLemmas.{tens_of_threes}
use Rattle.work_bound.proofs.tens.tens_of_threes.Goals as goal

pub returns-clause-least : goal.returns-clause-least
returns-clause-least c = tens_of_threes c.args.exponent
