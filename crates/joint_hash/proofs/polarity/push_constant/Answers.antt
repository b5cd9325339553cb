use Rattle.std.proofs.Common.{length, sym, subst}
use Rattle.claim_core.specs.Formulas.{query_clauses}
use Rattle.joint_hash.specs.Chains.{AreListed}
use Rattle.joint_hash.proofs.ListedLemmas.{listed_more}
use Rattle.joint_hash.proofs.polarity.push_constant.Goals as goal

pub returns : goal.returns
returns c listed has are =
    let cones = c.args.cones.now in
    let count = length (query_clauses cones.graphs cones.query) in
    subst (AreListed count listed) (sym c.in_ok-push.ensures.items) (listed_more count listed c.args.ids.now.items 0 are (λ early. has))
