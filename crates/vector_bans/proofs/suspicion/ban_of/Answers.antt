use Rattle.std.proofs.Common.{map}
use Rattle.account_core.specs.Given.{decided_by}
use Rattle.vector_bans.proofs.ResortLemmas.{within_by_facts, within_by_found}
use Rattle.vector_bans.proofs.suspicion.ban_of.Goals as goal

pub returns-in-Some-clause-ban : goal.returns-in-Some-clause-ban
returns-in-Some-clause-ban g c =
    let new = g.O.Oracle.known c.ban_by_claims.new.asker.oracle.now in
    within_by_facts c.args.graphs.now (map decided_by new.facts) c.args.pairs.now c.in-Some.ban (rw c.in-Some.is at c.in_ok-by_facts.ensures.shown)

pub returns-in_ok-ban_by_vector-in-None-clause-ban : goal.returns-in_ok-ban_by_vector-in-None-clause-ban
returns-in_ok-ban_by_vector-in-None-clause-ban g c =
    let new = g.O.Oracle.known c.ban_by_claims.new.asker.oracle.now in
    within_by_found c.args.graphs.now (map decided_by new.facts) c.args.pairs.now c.args.suspicion.output c.in_ok-ban_by_vector-in-None.field-0 c.in_ok-ban_by_vector-in-None.ensures (rw c.in-None.is at c.in_ok-by_facts.ensures.none)
