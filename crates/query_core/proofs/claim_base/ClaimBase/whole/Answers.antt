-- The variables are right for all gates.
use Rattle.std.proofs.Common.{sym, subst, ◌∙◌}
use Rattle.std.proofs.lemmas.Bool.{true≢false}
use Rattle.circuits.specs.Netlists.{Net}
use Rattle.claim_core.specs.declared.query.Query.{Query}
use Rattle.claim_core.specs.Queries.{IsQuery, circuit_of}
use Rattle.query_core.specs.ClaimClauses.{IsMarkedCone}
use Rattle.query_core.proofs.ClaimClauseLemmas.{cone_fits}
use Rattle.query_core.proofs.claim_base.ClaimBase.whole.Goals as goal

pub left_variables-left-requires : goal.left_variables-left-requires
left_variables-left-requires c =
    let inside = c.self.inside in
    subst (IsQuery inside.graphs.now) (sym c.in_ok-query.ensures) (cone_fits inside.graphs.now inside.query inside.left inside.right inside.cone.gates.items inside.cone.marked inside.whole c.self.invariant)

pub right_variables-requires : goal.right_variables-requires
right_variables-requires c =
    let inside = c.self.inside in
    subst (IsQuery inside.graphs.now) (sym c.in_ok-query.ensures) (cone_fits inside.graphs.now inside.query inside.left inside.right inside.cone.gates.items inside.cone.marked inside.whole c.self.invariant)

pub invariant_of-result : goal.invariant_of-result
invariant_of-result c =
    let graphs = c.self.inside.graphs.now in
    let known = c.self.invariant in
    let cone = c.in_ok-cone.cone in
    let of_side = subst (λ (n : Net). IsMarkedCone n c.self.inside.query.left.output cone.gates.items cone.marked) c.side.ensures c.in_ok-cone.ensures in
    record {
      claim = known.claim;
      placed = known.placed;
      asks = c.in_ok-query.ensures ∙ known.asks;
      cone = subst (λ (q : Query). IsMarkedCone (circuit_of graphs q.left) q.left.output cone.gates.items cone.marked) known.asks of_side;
      left_is = c.left_variables-left.ensures.value;
      left_fits = c.left_variables-left.ensures.fits;
      right_fits = c.in_ok-right.ensures.fits;
      of_cone = λ part. absurd (true≢false part);
      of_all = λ all. c.in_ok-right.ensures.value;
    }
