use Rattle.std.proofs.Common.{◌≡◌}
use Rattle.blif_reader.specs.Reading.{lines_left, size_left}
use Rattle.blif_reader.proofs.lines.JoinedLines.pass_line.Given as goal

abbrev pub invariant-loop-self : goal.invariant-loop-self
invariant-loop-self l = lines_left l.self ≡ lines_left l.initial.self

abbrev pub decreases-loop-self : goal.decreases-loop-self
decreases-loop-self l = size_left l.self
