use Rattle.std.proofs.Common.{◌<◌, All, subst, arith}
use Rattle.fact_bans.proofs.ReferLemmas.{ways_of_outputs}
use Rattle.fact_bans.proofs.refusal.block_of.Goals as goal

pub returns-clause-block : goal.returns-clause-block
returns-clause-block c = record {
  from_ascends = c.in_ok-from.ensures.ascends;
  to_ascends = c.in_ok-to.ensures.ascends;
  from_below = subst (λ n. All (λ port. port < n) c.in_ok-from.from) c.ports-outputs.ensures.second c.in_ok-from.ensures.below;
  to_below = subst (λ n. All (λ port. port < n) c.in_ok-to.to) c.ports-outputs.ensures.second c.in_ok-to.ensures.below;
  too_many = omega (arith, c.if-len-outputs.false, c.len.ensures, c.len-2.ensures, c.ports-outputs.ensures.second);
}

pub returns-clause-outputs : goal.returns-clause-outputs
returns-clause-outputs c =
    let from = subst (λ n. All (λ port. port < n) c.in_ok-from.from) c.ports-outputs.ensures.first c.in_ok-from.ensures.below in
    let to = subst (λ n. All (λ port. port < n) c.in_ok-to.to) c.ports-outputs.ensures.second c.in_ok-to.ensures.below in
    ways_of_outputs c.args.graphs.now c.in_ok-from.from c.in_ok-to.to from to
