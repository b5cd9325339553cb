-- No number is listed yet.
use Rattle.std.proofs.Common.{length, sym, subst}
use Rattle.claim_core.specs.Formulas.{query_clauses}
use Rattle.joint_hash.specs.Chains.{AreListed}
use Rattle.joint_hash.proofs.ListedLemmas.{none_listed}
use Rattle.joint_hash.proofs.needed.last_ids.Goals as goal

pub push_output-requires : goal.push_output-requires
push_output-requires c =
    let cones = c.args.cones.now in
    let count = length (query_clauses cones.graphs cones.query) in
    subst (AreListed count cones.ids) (sym c.new-ids.ensures.items) (none_listed count cones.ids)
