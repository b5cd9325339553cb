use Rattle.std.proofs.Common.{◌≡◌, length}
use Rattle.blif_reader.specs.Reading.{words_left, lines_left}
use Rattle.blif_reader.specs.Building.{EndsAs}
use Rattle.blif_reader.proofs.covers.last_word.Given as goal

-- the last word is that of the words left, or the one that was read last where none is left
abbrev pub invariant-loop-word : goal.invariant-loop-word
invariant-loop-word l =
    EndsAs l.last (words_left l.lines) (words_left l.initial.lines)
    × (lines_left l.lines ≡ lines_left l.initial.lines)

abbrev pub decreases-loop-word : goal.decreases-loop-word
decreases-loop-word l = length (words_left l.lines)
