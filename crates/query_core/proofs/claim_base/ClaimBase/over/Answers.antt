-- The variables are right for the gates of the cone.
use Rattle.std.proofs.Common.{◌≡◌, ℕ, List, All, slice_index_or, subst}
use Rattle.std.proofs.lemmas.Bool.{false≢true}
use Rattle.std.proofs.lemmas.List.Elements.{All-contains}
use Rattle.net_core.specs.Cones.{ReachesGate}
use Rattle.claim_core.specs.declared.query.Query.{Query}
use Rattle.claim_core.specs.Formulas.{right_variables}
use Rattle.claim_core.specs.Queries.{circuit_of}
use Rattle.query_core.specs.Variables.{variable_at}
use Rattle.query_core.proofs.claim_base.ClaimBase.over.Goals as goal

pub invariant_of-result : goal.invariant_of-result
invariant_of-result c =
    let graphs = c.args.graphs.now in
    let claim = c.args.claim.now in
    let query = c.in_ok-query.query in
    let right = c.in_ok-right.right in
    let gates = c.args.cone.gates.items in
    let asks = c.in_ok-query.ensures.query in
    let values = subst (λ (ts : List ℕ). All (λ t. variable_at right t ≡ slice_index_or (right_variables graphs query) t 0) ts) c.deref.ensures.value c.in_ok-right.ensures.values in
    record {
      claim = claim;
      placed = c.requires.claim;
      asks = asks;
      cone = c.requires.cone;
      left_is = c.left_variables-left.ensures.value;
      left_fits = c.left_variables-left.ensures.fits;
      right_fits = c.in_ok-right.ensures.fits;
      of_cone = λ part t reached.
          let of_claim = subst (λ (q : Query). ReachesGate (circuit_of graphs q.right) q.right.output t) asks reached in
          All-contains (λ u. variable_at right u ≡ slice_index_or (right_variables graphs query) u 0) gates t values ((c.requires.cone.are.reached t).1 of_claim);
      of_all = λ whole. absurd (false≢true whole);
    }
