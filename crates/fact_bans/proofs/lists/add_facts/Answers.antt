use Rattle.std.proofs.Common.{rules}
use Rattle.ban_book.proofs.ListedLemmas.{lists_skip}
use Rattle.fact_bans.specs.Requests.{shaped_by}
use Rattle.fact_bans.proofs.FactLemmas.{one_added, requested_grow}
use Rattle.fact_bans.proofs.lists.add_facts.Goals as goal

pub returns-in_default-clause-lists : goal.returns-in_default-clause-lists
returns-in_default-clause-lists g c = λ added. lists_skip (shaped_by c.args.request.both) _ _ _ _ _ _ c.requires.may.lists

pub returns-clause-lists : goal.returns-clause-lists
returns-clause-lists g c =
    let old = g.O.Oracle.known c.args.asker.now.oracle.now in
    let new = g.O.Oracle.known c.add_fact.new.asker.oracle.now in
    let lists = requested_grow old new c.args.request c.args.input c.args.numbers.now c.add_fact.ensures.serves.grows c.requires.may.lists in
    one_added new c.args.request c.args.input c.in-Some.value c.claim_of-claim.result c.args.numbers.now c.add_fact.new.numbers c.add_fact.result (search rules) c.claim_of-claim.ensures lists c.add_fact.ensures.adds
