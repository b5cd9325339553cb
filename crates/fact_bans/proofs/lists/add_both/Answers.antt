use Rattle.fact_bans.proofs.FactLemmas.{adds_grow, both_added, requested_grow}
use Rattle.fact_bans.proofs.ServeLemmas.{served_one, serves_last}
use Rattle.fact_bans.proofs.lists.add_both.Goals as goal

pub returns-clause-serves : goal.returns-clause-serves
returns-clause-serves g c = serves_last _ _ _ _ _ _ _ (served_one _ _ _ _ _ c.in_ok-add_fact.ensures.serves) c.add_fact-2.ensures.serves

pub returns-clause-lists : goal.returns-clause-lists
returns-clause-lists g c =
    let mid = g.O.Oracle.known c.add_fact.new.asker.oracle.now in
    let new = g.O.Oracle.known c.add_fact-2.new.asker.oracle.now in
    let request = c.args.request in
    let input = c.args.input in
    let before = c.args.numbers.now in
    let one = adds_grow mid new c.claim_of-up.result request.holds before c.add_fact.new.numbers c.add_fact-2.ensures.serves.grows (c.in_ok-add_fact.ensures.adds c.if-not-branch.false) in
    let lists = requested_grow mid new request input before c.add_fact-2.ensures.serves.grows (requested_grow _ mid request input before c.in_ok-add_fact.ensures.serves.grows c.requires.may.lists) in
    both_added new request input c.claim_of-up.result c.claim_of-down.result before c.add_fact.new.numbers c.add_fact-2.new.numbers c.add_fact-2.result c.requires.both c.claim_of-up.ensures c.claim_of-down.ensures lists one c.add_fact-2.ensures.adds
