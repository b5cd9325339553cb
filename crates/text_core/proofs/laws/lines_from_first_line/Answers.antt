-- The first line is cut at the first line feed.
use Rattle.text_core.proofs.LineLemmas.{lines-next, lines-none}
use Rattle.text_core.proofs.laws.lines_from_first_line.Goals as goal

pub returns-clause-none : goal.returns-clause-none
returns-clause-none c = lines-none

pub returns-clause-next : goal.returns-clause-next
returns-clause-next c = lines-next
