use Rattle.std.proofs.Common.{ℕ, ◌<◌}
use Rattle.net_core.specs.declared.graphs.Side.TheVariants.{First}
use Rattle.account_core.specs.Assigned.{IsTaken}
use Rattle.pair_domains.specs.Trails.{assigned_in}
use Rattle.match_search.proofs.choosing.first_of.Given as goal

abbrev pub invariant-loop-number : goal.invariant-loop-number
invariant-loop-number l = (q : ℕ) → q < l.number → IsTaken First (assigned_in l.domains.entries) l.kind q
