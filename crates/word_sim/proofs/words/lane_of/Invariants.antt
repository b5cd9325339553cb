-- The bits of the columns so far.
use Rattle.std.proofs.Common.{◌≡◌, take}
use Rattle.word_sim.specs.Columns.{lane, row_of}
use Rattle.word_sim.proofs.words.lane_of.Given as goal

abbrev pub invariant-loop-column : goal.invariant-loop-column
invariant-loop-column l = l.bits ≡ lane l.lane (row_of (take l.column-index l.columns) l.word)
