use Rattle.std.proofs.Common.{ℕ, ◌<◌, ◌≤◌}
use Rattle.ban_book.specs.Ways.{nth_way}
use Rattle.pair_domains.specs.Trails.{IsDeleted}
use Rattle.pair_search.proofs.ports.remaining.Given as goal

abbrev pub invariant-loop-number : goal.invariant-loop-number
invariant-loop-number l = (number : ℕ) → l.from ≤ number → number < l.number → IsDeleted l.domains.entries (nth_way l.port.side l.port.kind l.port.number number)
