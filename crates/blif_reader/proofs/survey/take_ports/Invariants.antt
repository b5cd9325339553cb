use Rattle.std.proofs.Common.{◌≡◌, ◌++◌, length}
use Rattle.blif_reader.specs.Names.{named_ports}
use Rattle.blif_reader.specs.Reading.{words_left, lines_left}
use Rattle.blif_reader.proofs.survey.take_ports.Given as goal

-- what is noted and the words that are left make the whole
abbrev pub invariant-loop-word : goal.invariant-loop-word
invariant-loop-word l =
    (l.ports.items ++ named_ports l.kind (words_left l.lines) ≡ l.initial.ports.items ++ named_ports l.kind (words_left l.initial.lines))
    × (lines_left l.lines ≡ lines_left l.initial.lines)

abbrev pub decreases-loop-word : goal.decreases-loop-word
decreases-loop-word l = length (words_left l.lines)
