use Rattle.std.proofs.Common.{◌∙◌, map, subst, sym}
use Rattle.circuits.specs.declared.port.Pair.{Pair}
use Rattle.account_core.specs.Given.{decided_by}
use Rattle.ban_book.specs.Shown.{IsShownBan}
use Rattle.vector_bans.specs.Resorts.{ShowNothing}
use Rattle.vector_bans.proofs.ResortLemmas.{within_by_facts, within_by_vector}
use Rattle.std.specs.Prelude.{List}
use Rattle.vector_bans.proofs.last_resort.ban_of.Goals as goal

pub returns-in-Some-clause-ban : goal.returns-in-Some-clause-ban
returns-in-Some-clause-ban g c =
    let new = g.O.Oracle.known c.ban_by_claims.new.asker.oracle.now in
    let shown = rw c.in-Some.is at c.in_ok-by_facts.ensures.shown in
    within_by_facts c.args.graphs.now (map decided_by new.facts) c.args.shown.pairs c.in-Some.ban (subst (λ (l : List Pair). IsShownBan c.args.graphs.now (map decided_by new.facts) l c.in-Some.ban) c.deref.ensures.value shown)

pub returns-clause-ban : goal.returns-clause-ban
returns-clause-ban g c =
    let new = g.O.Oracle.known c.ban_by_claims.new.asker.oracle.now in
    let none = rw c.in-None.is at c.in_ok-by_facts.ensures.none in
    let nothing = subst (ShowNothing c.args.graphs.now (map decided_by new.facts) c.args.shown.pair) (c.deref.ensures.value ∙ sym c.deref-in-None.ensures.value) none in
    within_by_vector c.args.graphs.now (map decided_by new.facts) c.args.shown.pairs c.deref-in-None.result.now c.args.shown.pair c.args.shown.values c.in_ok-vector_ban-in-None.field-0 c.deref-in-None.ensures.value c.in_ok-vector_ban-in-None.ensures c.requires.shown nothing
