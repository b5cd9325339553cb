-- The searches so far are done.
use Rattle.std.proofs.Common.{◌≡◌, length}
use Rattle.net_core.specs.Search.{IsReady}
use Rattle.net_core.proofs.levels.visit_all.Given as goal

abbrev pub invariant-loop-root : goal.invariant-loop-root
invariant-loop-root l =
    IsReady l.net l.root l.search.visits.items l.search.stack.items × (l.root-end ≡ length l.net.defs)
