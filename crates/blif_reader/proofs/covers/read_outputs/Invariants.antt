use Rattle.std.proofs.Common.{◌≡◌, length}
use Rattle.blif_reader.specs.Reading.{words_left, lines_left}
use Rattle.blif_reader.specs.Numbers.{names_of}
use Rattle.blif_reader.specs.Building.{ReadsOutputs}
use Rattle.blif_reader.proofs.covers.read_outputs.Given as goal

abbrev pub invariant-loop-word : goal.invariant-loop-word
invariant-loop-word l =
    ReadsOutputs (names_of l.names) l.initial.outputs l.outputs (words_left l.initial.lines) (words_left l.lines)
    × (lines_left l.lines ≡ lines_left l.initial.lines)

abbrev pub decreases-loop-word : goal.decreases-loop-word
decreases-loop-word l = length (words_left l.lines)
