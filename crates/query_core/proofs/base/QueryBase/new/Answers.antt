use Rattle.std.proofs.Common.{sym, subst}
use Rattle.query_core.specs.Variables.{IsAsking}
use Rattle.query_core.proofs.base.QueryBase.new.Goals as goal

pub invariant_of-result : goal.invariant_of-result
invariant_of-result c =
    subst (λ query. IsAsking c.args.graphs.now query c.left_variables-left.result c.in_ok-right.right) (sym c.in_ok-query.ensures) (record {
      fits = c.requires;
      left_is = c.left_variables-left.ensures.value;
      right_is = c.in_ok-right.ensures.value;
      left_fits = c.left_variables-left.ensures.fits;
      right_fits = c.in_ok-right.ensures.fits;
    })
