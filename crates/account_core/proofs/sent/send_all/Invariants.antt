-- The places have what the pairs from `left` on make of the values.
use Rattle.std.proofs.Common.{◌≡◌, ℕ, ◌<◌, ◌≤◌, length, drop}
use Rattle.account_core.specs.Vectors.{value_at, value_sent}
use Rattle.account_core.proofs.sent.send_all.Given as goal

abbrev pub invariant-loop-left : goal.invariant-loop-left
invariant-loop-left l =
    (l.left ≤ length l.pairs)
    × (length l.sent ≡ length l.fn.sent)
    × ((place : ℕ) → place < length l.sent → value_at l.sent place ≡ value_sent (drop l.left l.pairs) l.values place)

abbrev pub decreases-loop-left : goal.decreases-loop-left
decreases-loop-left l = l.left
