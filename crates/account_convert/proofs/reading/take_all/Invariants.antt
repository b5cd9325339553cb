use Rattle.std.proofs.Common.{ℕ, List, length}
use Rattle.account_convert.specs.Reading.{IsReading}
use Rattle.account_convert.proofs.reading.take_all.Given as goal

-- what was read before is so of what is read now
abbrev pub invariant-loop : goal.invariant-loop
invariant-loop g l = (account : List ℕ) (first : g.row.T.Denot) → IsReading g.T.TakeRecords.leads account first l.fn.reader l.fn.taker → IsReading g.T.TakeRecords.leads account first l.reader l.taker

abbrev pub decreases-loop : goal.decreases-loop
decreases-loop g l = length l.reader.left
