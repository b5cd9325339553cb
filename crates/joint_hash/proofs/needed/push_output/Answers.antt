-- The clause of an output is one of the cones.
use Rattle.std.proofs.Common.{length, sym, subst}
use Rattle.claim_core.specs.Formulas.{query_clauses}
use Rattle.joint_hash.specs.Chains.{AreListed}
use Rattle.joint_hash.proofs.ListedLemmas.{listed_more}
use Rattle.joint_hash.proofs.needed.push_output.Goals as goal

pub returns : goal.returns
returns c =
    let cones = c.args.cones.now in
    let count = length (query_clauses cones.graphs cones.query) in
    let there = rw c.in-Some.is at c.id_before_last.ensures in
    subst (AreListed count cones.ids) (sym c.in_ok-push.ensures.items) (listed_more count cones.ids c.args.ids.now.items c.in-Some.id c.requires (λ early. there))
