-- The first line and what stands after it.
use Rattle.std.proofs.Common.{arith}
use Rattle.text_core.proofs.LineLemmas.{lines-front}
use Rattle.text_core.proofs.spans.Cursor.next_line.Goals as goal

pub returns-clause-next : goal.returns-clause-next
returns-clause-next c = grind (arith, lines-front)
