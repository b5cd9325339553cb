-- The exit status of each outcome.
use Rattle.std.specs.Prelude.{ℕ}
use Rattle.check_steps.specs.declared.outcome.Outcome.{Outcome}
use Rattle.check_steps.specs.declared.outcome.Outcome.TheVariants.{AcceptedMatch, AcceptedRefusal, Rejected, Matched, NoMatching, Spent, Usage, Absent}
use Rattle.check_steps.specs.declared.outcome.Outcome.TheVariants.{TooLarge, Malformed, Informed, Made, Restored, Trimmed, Converted}
use Rattle.check_steps.specs.declared.outcome.Outcome.TheVariants.{BadHierarchy, Flattened, Swept, Tried, ReadFault, WriteFault, Memory}

-- 0 says a match, or that the work is done; 1 that there is no match; from 2 on, why there is no answer
abbrev pub status_of : Outcome → ℕ
status_of (AcceptedMatch matching) = 0
status_of AcceptedRefusal = 1
status_of (Rejected line why) = 2
status_of (Matched matching) = 0
status_of NoMatching = 1
status_of Informed = 0
status_of Made = 0
status_of (Restored gates) = 0
status_of (Trimmed before after) = 0
status_of (Converted from to records) = 0
status_of (Flattened models instances gates) = 0
status_of (Swept before after left) = 0
status_of (Tried number account) = 0
status_of (Spent ledger) = 3
status_of Usage = 4
status_of (Absent which) = 5
status_of (TooLarge which) = 5
status_of (Malformed which kind at) = 5
status_of (BadHierarchy fault) = 5
status_of ReadFault = 6
status_of WriteFault = 6
status_of Memory = 7
