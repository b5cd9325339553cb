use Rattle.std.proofs.Common.{take, All}
use Rattle.pair_domains.specs.Trails.{IsDeleted}
use Rattle.pair_search.proofs.crowds.are_deleted.Given as goal

abbrev pub invariant-loop-way : goal.invariant-loop-way
invariant-loop-way l = All (IsDeleted l.domains.entries) (take l.way-index l.ways)
