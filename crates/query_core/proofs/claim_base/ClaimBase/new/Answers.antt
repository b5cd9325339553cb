-- A gate that the output reaches is marked.
use Rattle.std.proofs.Common.{◌≡◌, ℕ, true, ap, subst, ◌∙◌}
use Rattle.std.proofs.lemmas.Result.{IfOk-weaker}
use Rattle.circuits.specs.Literals.{bit}
use Rattle.circuits.specs.Netlists.{Net}
use Rattle.net_core.specs.Cones.{ReachesGate}
use Rattle.net_core.specs.Sides.{graph_of}
use Rattle.query_core.specs.ClaimClauses.{IsMarkedCone}
use Rattle.query_core.proofs.ClaimClauseLemmas.{cone_marked}
use Rattle.query_core.proofs.claim_base.ClaimBase.new.Goals as goal

pub returns-clause-cone : goal.returns-clause-cone
returns-clause-cone c =
    let cone = c.in_ok-cone.cone in
    let of_side = subst (λ (n : Net). IsMarkedCone n c.args.claim.now.output cone.gates.items cone.marked) c.side.ensures c.in_ok-cone.ensures in
    IfOk-weaker c.over.result (λ base. base.marked ≡ cone.marked) (λ base. (t : ℕ) → ReachesGate (graph_of c.args.graphs.now c.args.claim.now.side) c.args.claim.now.output t → bit base.marked t ≡ true) (λ base marked t reached. ap (λ m. bit m t) marked ∙ cone_marked (graph_of c.args.graphs.now c.args.claim.now.side) c.args.claim.now.output cone.gates.items cone.marked t of_side reached) c.over.ensures.marked
