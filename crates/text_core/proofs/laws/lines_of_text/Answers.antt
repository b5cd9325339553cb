-- Lines are parted at line feeds alone.
use Rattle.text_core.proofs.LineLemmas.{lines-each, text_of_lines-lines, lines-text_of_lines, lines-last}
use Rattle.text_core.proofs.laws.lines_of_text.Goals as goal

pub returns-clause-each : goal.returns-clause-each
returns-clause-each c = lines-each

pub returns-clause-joined : goal.returns-clause-joined
returns-clause-joined c = text_of_lines-lines

pub returns-clause-parted : goal.returns-clause-parted
returns-clause-parted c = lines-text_of_lines

pub returns-clause-last : goal.returns-clause-last
returns-clause-last c = lines-last
