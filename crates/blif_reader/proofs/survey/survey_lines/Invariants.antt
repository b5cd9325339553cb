use Rattle.std.proofs.Common.{length}
use Rattle.std.specs.List.{filter}
use Rattle.blif_reader.specs.JoinedLines.{has_words, joined_lines}
use Rattle.blif_reader.specs.Reading.{lines_left}
use Rattle.blif_reader.specs.Surveys.{IsUnderWay}
use Rattle.blif_reader.proofs.survey.survey_lines.Given as goal

abbrev pub invariant-loop-first : goal.invariant-loop-first
invariant-loop-first l =
    IsUnderWay (joined_lines (record { bytes = l.input; at = 0 })) l.survey (filter has_words (lines_left l.lines))

abbrev pub decreases-loop-first : goal.decreases-loop-first
decreases-loop-first l = length (filter has_words (lines_left l.lines))
