-- The order in which variables are decided.
use Rattle.std.proofs.Common.{ℕ, ◌≤◌, Bool, List, length, sum_by}
use Rattle.trail_core.specs.Trails.{Trailing}
use Rattle.learn_solver.specs.declared.order.Order.{Order}
use Rattle.learn_solver.specs.Orders.{IsOrder}
use Rattle.learn_solver.proofs.MarkLemmas.{one_if}

-- literals are noted from the end of a trail down
pub record IsReleasing (trail : Trailing) (order : Order) (place : ℕ) : Type 0 where
  pub order_is : IsOrder trail.variables order
  pub within : place ≤ length trail.entries

-- how many are queued
abbrev pub how_many : List Bool → ℕ
how_many queued = sum_by one_if queued
