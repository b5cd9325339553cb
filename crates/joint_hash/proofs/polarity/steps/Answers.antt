-- The clauses are those of the two gates, or lines.
use Rattle.std.proofs.Common.{length}
use Rattle.claim_core.specs.Formulas.{query_clauses}
use Rattle.joint_hash.proofs.ListedLemmas.{steps_between}
use Rattle.joint_hash.proofs.polarity.steps.Goals as goal

pub returns : goal.returns
returns c =
    let count = length (query_clauses c.args.cones.now.graphs c.args.cones.now.query) in
    steps_between count c.args.gate.now c.args.copy.now _ _ _ _ _ _ c.new-ids.ensures.items c.in_ok-push.ensures.items c.in_ok-push_link.ensures c.in_ok-push-2.ensures.items c.in_ok-push_link-2.ensures c.in_ok-push-3.ensures.items
