use Rattle.std.proofs.Common.{take, All}
use Rattle.account_core.specs.Assigned.{IsEntryOf}
use Rattle.match_search.proofs.matching.put_partners.Given as goal

abbrev pub invariant-loop-pair : goal.invariant-loop-pair
invariant-loop-pair l = All (IsEntryOf l.kind l.partners) (take l.pair-index l.assigned)
