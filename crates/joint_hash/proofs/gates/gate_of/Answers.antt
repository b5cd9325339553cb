-- The gate whose last clause was read is one of the cones.
use Rattle.std.proofs.Common.{ap, subst, ◌∙◌, arith}
use Rattle.cnf_core.specs.Clauses.{opposite}
use Rattle.net_core.specs.Sides.{Graphs}
use Rattle.net_core.specs.Graph.{IsGraph}
use Rattle.joint_hash.proofs.GateLemmas.{gate_at, three_in}
use Rattle.joint_hash.proofs.gates.gate_of.Goals as goal

pub returns-clause-gate : goal.returns-clause-gate
returns-clause-gate c =
    let cones = c.args.cones.now in
    let last = c.args.last in
    let lits = c.clause-clause.result.lits in
    let first = subst (λ (g : Graphs). IsGraph g.first) c.graphs-graphs.ensures.value c.first-first.ensures.sound in
    let second = subst (λ (g : Graphs). IsGraph g.second) c.graphs-graphs.ensures.value c.second-second.ensures.sound in
    gate_at cones.graphs cones.query last _ first second c.graphs-graphs.ensures.fits c.requires.cone c.requires.some c.requires.third (omega (arith, c.requires.some, c.requires.third)) (λ x y z clause.
    let parts = three_in lits c.clause-clause.result.len x y z (record { 0 = 0 }) (c.clause-clause.ensures.value ∙ clause) in
    (parts.0, c.opposite.ensures ∙ ap opposite parts.1, c.opposite-2.ensures ∙ ap opposite parts.2))

pub clause-clause-requires : goal.clause-clause-requires
clause-clause-requires c = (c.ids-ids.ensures.are.cones c.args.last).1 c.requires.cone
