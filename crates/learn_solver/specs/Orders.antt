-- The order in which variables are decided: that it has room for each.
use Rattle.std.specs.Prelude.{◌≡◌, ℕ, length}
use Rattle.learn_solver.specs.declared.order.Order.{Order}

-- An entry for each of n variables in each list.
pub record IsOrder (variables : ℕ) (order : Order) : Type 0 where
  pub heap : length order.heap ≡ variables
  pub phases : length order.phases.items ≡ variables
  pub named : length order.named.items ≡ variables
