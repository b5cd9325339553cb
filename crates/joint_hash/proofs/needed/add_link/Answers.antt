-- The steps are those between the two gates.
use Rattle.std.proofs.Common.{length, sym, subst}
use Rattle.claim_core.specs.Formulas.{query_clauses}
use Rattle.joint_hash.specs.Merging.{AreBetween}
use Rattle.joint_hash.proofs.needed.add_link.Goals as goal

pub add_implied-requires-clause-between : goal.add_implied-requires-clause-between
add_implied-requires-clause-between c =
    let cones = c.args.cones.now in
    let count = length (query_clauses cones.graphs cones.query) in
    subst (AreBetween count c.in-Some.gate c.in-Some-gate_of.copy) (sym c.deref.ensures.value) c.in_ok-steps.ensures
