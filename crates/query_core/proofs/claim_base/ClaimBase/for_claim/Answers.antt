-- The cone of the same output serves again.
use Rattle.std.proofs.Common.{◌≡◌, ◌==◌, eqb-true, true, sym, subst, refl, ◌∙◌}
use Rattle.std.proofs.lemmas.Bool.{and_parts, false≢true}
use Rattle.net_core.specs.Sides.{graph_of}
use Rattle.net_core.specs.declared.graphs.Side.{Side}
use Rattle.net_core.specs.declared.graphs.Side.TheVariants.{First, Second}
use Rattle.net_core.specs.contracts.graphs.SidePartialEq.TheImpl.{eq-value as side_eq}
use Rattle.claim_core.specs.declared.query.Query.{Query}
use Rattle.claim_core.specs.Queries.{circuit_of}
use Rattle.query_core.specs.ClaimClauses.{IsMarkedCone}
use Rattle.query_core.proofs.claim_base.ClaimBase.for_claim.Goals as goal

one_side : (a b : Side) → side_eq.it a b ≡ true → a ≡ b
one_side First First e = refl
one_side First Second e = absurd (false≢true e)
one_side Second First e = absurd (false≢true e)
one_side Second Second e = refl

pub over-requires-clause-cone : goal.over-requires-clause-cone
over-requires-clause-cone c =
    let inside = c.self.inside in
    let graphs = inside.graphs.now in
    let gates = inside.cone.gates.items in
    let marked = inside.cone.marked in
    let claim = c.args.claim.now in
    let both = and_parts c.eq.result (inside.query.left.output == claim.output) c.if-eq-query.true in
    let side = one_side inside.query.left.side claim.side (sym c.eq.ensures ∙ both.0) in
    let output = eqb-true inside.query.left.output claim.output both.1 in
    let own = subst (λ (q : Query). IsMarkedCone (circuit_of graphs q.left) q.left.output gates marked) (sym c.self.invariant.asks) c.self.invariant.cone in
    subst (λ k. IsMarkedCone (graph_of graphs claim.side) k gates marked) output (subst (λ s. IsMarkedCone (graph_of graphs s) inside.query.left.output gates marked) side own)
