use Rattle.std.proofs.Common.{◌≡◌, length}
use Rattle.blif_reader.specs.Reading.{words_left, lines_left}
use Rattle.blif_reader.specs.Numbers.{names_of}
use Rattle.blif_reader.specs.Building.{ReadsOperands}
use Rattle.blif_reader.proofs.covers.operand_signals.Given as goal

abbrev pub invariant-loop-word : goal.invariant-loop-word
invariant-loop-word l =
    ReadsOperands (names_of l.names) l.signals l.operand (words_left l.lines) (words_left l.fn.lines)
    × (lines_left l.lines ≡ lines_left l.fn.lines)

abbrev pub decreases-loop-word : goal.decreases-loop-word
decreases-loop-word l = length (words_left l.lines)
