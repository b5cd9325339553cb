use Rattle.std.proofs.Common.{length}
use Rattle.blif_reader.specs.Reading.{IsBetween}
use Rattle.blif_reader.proofs.lines.JoinedLines.next_line.Given as goal

abbrev pub invariant-loop-line : goal.invariant-loop-line
invariant-loop-line l = IsBetween l.initial.self l.self

abbrev pub decreases-loop-line : goal.decreases-loop-line
decreases-loop-line l = length l.self.rest.bytes
