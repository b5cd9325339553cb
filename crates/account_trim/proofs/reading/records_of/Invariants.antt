use Rattle.std.proofs.Common.{length}
use Rattle.account_trim.specs.Reads.{IsReading}
use Rattle.account_trim.proofs.reading.records_of.Given as goal

abbrev pub invariant-loop-records : goal.invariant-loop-records
invariant-loop-records l = IsReading l.account l.reader l.records

abbrev pub decreases-loop-records : goal.decreases-loop-records
decreases-loop-records l = length l.reader.left
