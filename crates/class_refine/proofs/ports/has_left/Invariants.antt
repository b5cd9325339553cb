use Rattle.std.proofs.Common.{ℕ, ◌<◌}
use Rattle.pair_domains.specs.Trails.{IsDeleted}
use Rattle.ban_book.specs.Ways.{nth_way}
use Rattle.class_refine.proofs.ports.has_left.Given as goal

abbrev pub invariant-loop-number : goal.invariant-loop-number
invariant-loop-number l = (k : ℕ) → k < l.number → IsDeleted l.domains.entries (nth_way l.port.side l.port.kind l.port.number k)
