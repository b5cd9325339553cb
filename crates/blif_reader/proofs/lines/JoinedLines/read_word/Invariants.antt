use Rattle.blif_reader.specs.Reading.{IsAsLeft, size_left}
use Rattle.blif_reader.proofs.lines.JoinedLines.read_word.Given as goal

abbrev pub invariant-lines : goal.invariant-lines
invariant-lines l =
    IsAsLeft l.initial.self l.self

abbrev pub decreases-lines : goal.decreases-lines
decreases-lines l = size_left l.self
