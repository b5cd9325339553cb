-- The variables and the numbers are those of the cones.
use Rattle.std.proofs.Common.{◌≡◌, ℕ, List, All, sym, subst, slice_index_or}
use Rattle.std.proofs.lemmas.List.Elements.{All-contains}
use Rattle.claim_core.specs.Formulas.{right_variables}
use Rattle.query_core.specs.Variables.{IsConing, variable_at}
use Rattle.query_core.proofs.cone_clauses.ConeClauses.new.Goals as goal

pub invariant_of-result : goal.invariant_of-result
invariant_of-result c =
    let graphs = c.args.graphs.now in
    let query = c.args.query.now in
    let right = c.in_ok-right.right in
    let gates = c.in_ok-right_gates.right_gates.items in
    let values = subst (λ (ts : List ℕ). All (λ t. variable_at right t ≡ slice_index_or (right_variables graphs query) t 0) ts) c.deref-3.ensures.value c.in_ok-right.ensures.values in
    subst (λ q. IsConing graphs q c.left_variables-left.result right c.in_ok-ids.ids.items) (sym c.in_ok-query.ensures) (record {
      fits = c.requires;
      left_is = c.left_variables-left.ensures.value;
      right_is = λ t reached. All-contains (λ u. variable_at right u ≡ slice_index_or (right_variables graphs query) u 0) gates t values ((c.in_ok-right_gates.ensures.reached t).1 reached);
      left_fits = c.left_variables-left.ensures.fits;
      right_fits = c.in_ok-right.ensures.fits;
      are = c.in_ok-ids.ensures;
    })
