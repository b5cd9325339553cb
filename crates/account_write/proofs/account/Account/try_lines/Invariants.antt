use Rattle.std.proofs.Common.{All}
use Rattle.account_file.specs.Spelling.{IsWritable}
use Rattle.account_write.specs.Records.{records_left, records_of, steps_left}
use Rattle.account_write.proofs.account.Account.try_lines.Given as goal

-- what was printed can be read back
abbrev pub invariant-loop-lines : goal.invariant-loop-lines
invariant-loop-lines l = All IsWritable (records_left l.lines) → All IsWritable (records_of l.self)

abbrev pub decreases-loop-lines : goal.decreases-loop-lines
decreases-loop-lines l = steps_left l.lines
