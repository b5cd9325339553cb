-- Each factor by its power of ten.
use Rattle.work_bound.proofs.TensLemmas.{tens_of_lines}
use Rattle.work_bound.proofs.tens.tens_of_lines.Goals as goal

pub returns : goal.returns
returns c =
    tens_of_lines c.args.inputs c.args.outputs c.args.gates c.tens_of_threes-clauses.result c.tens_of.result c.tens_of-2.result
    c.tens_of_threes-clauses.ensures.least c.tens_of.ensures.least c.tens_of-2.ensures.least
