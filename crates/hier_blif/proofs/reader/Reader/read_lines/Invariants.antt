use Rattle.std.proofs.Common.{length}
use Rattle.std.specs.List.{filter}
use Rattle.blif_reader.specs.JoinedLines.{has_words}
use Rattle.blif_reader.specs.Reading.{lines_left}
use Rattle.blif_reader.specs.Blif.{blif_lines}
use Rattle.hier_blif.specs.Reading.{IsReading}
use Rattle.hier_blif.proofs.reader.Reader.read_lines.Given as goal

abbrev pub invariant-loop-first : goal.invariant-loop-first
invariant-loop-first l =
    IsReading (blif_lines l.input) (filter has_words (lines_left l.lines)) l.self

abbrev pub decreases-loop-first : goal.decreases-loop-first
decreases-loop-first l = length (filter has_words (lines_left l.lines))
