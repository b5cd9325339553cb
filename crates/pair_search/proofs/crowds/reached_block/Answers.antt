use Rattle.std.proofs.Common.{ℕ, ◌<◌, All, arith, subst}
use Rattle.pair_search.proofs.crowds.reached_block.Goals as goal

pub returns : goal.returns
returns c = record {
  from_ascends = c.in_ok-from.ensures.ascends;
  to_ascends = c.in_ok-to.ensures.ascends;
  from_below = subst (λ (n : ℕ). All (λ port. port < n) c.in_ok-from.from) c.ports-count.ensures c.in_ok-from.ensures.below;
  to_below = subst (λ (n : ℕ). All (λ port. port < n) c.in_ok-to.to) c.ports-count.ensures c.in_ok-to.ensures.below;
  too_many = omega (arith, c.if-len-count.false, c.len.ensures, c.len-2.ensures, c.ports-count.ensures);
}
