use Rattle.std.proofs.Common.{take, All, Contains}
use Rattle.pair_domains.specs.Trails.{assigned_in}
use Rattle.pair_search.proofs.units.unassigned.Given as goal

abbrev pub invariant-loop-pair : goal.invariant-loop-pair
invariant-loop-pair l = All (Contains (assigned_in l.domains.entries)) (take l.pair-index l.pairs)
