use Rattle.std.proofs.Common.{◌∙◌, List, ap, length, map, refl, sym, subst}
use Rattle.net_core.specs.Sides.{Graphs}
use Rattle.net_core.specs.declared.graphs.Side.TheVariants.{First, Second}
use Rattle.account_core.specs.Facts.{AreFacts}
use Rattle.account_core.specs.Given.{decided_by}
use Rattle.ban_book.specs.Rows.{IsRow}
use Rattle.ban_book.specs.declared.input_claims.InputClaims.{InputClaims}
use Rattle.fact_bans.proofs.AskingLemmas.{same_then}
use Rattle.fact_bans.proofs.ServeLemmas.{ask_later, served_one, served_then, serves_err, serves_memory, serves_ok}
use Rattle.vector_bans.proofs.ResortLemmas.{both_rows, first_there, nothing_by_rows, second_there, shown_by_rows}
use Rattle.vector_bans.proofs.last_resort.ban_by_claims.Goals as goal

pub claims_of-requires-clause-output : goal.claims_of-requires-clause-output
claims_of-requires-clause-output g c = first_there c.args.graphs.now c.args.pairs.now c.args.pair c.requires.known c.requires.output

pub claims_of-requires-2-clause-may : goal.claims_of-requires-2-clause-may
claims_of-requires-2-clause-may g c = ask_later _ _ _ _ _ c.requires.may (served_one _ _ _ _ _ c.in_ok-first.ensures.serves)

pub claims_of-requires-2-clause-output : goal.claims_of-requires-2-clause-output
claims_of-requires-2-clause-output g c = second_there c.args.graphs.now c.args.pairs.now c.args.pair c.requires.known c.requires.output

pub ban_by_facts-requires-clause-first : goal.ban_by_facts-requires-clause-first
ban_by_facts-requires-clause-first g c = ap length c.deref.ensures.value ∙ c.in_ok-first.ensures.whole

pub ban_by_facts-requires-clause-second : goal.ban_by_facts-requires-clause-second
ban_by_facts-requires-clause-second g c = ap length c.deref-2.ensures.value ∙ c.in_ok-second.ensures.whole

pub returns-in_err-second-clause-serves : goal.returns-in_err-second-clause-serves
returns-in_err-second-clause-serves g c =
    serves_err _ _ _ _ _ _ _ c.in_err-second.field-0.0 c.from_residual-in_err-second.ensures.1 (served_one _ _ _ _ _ c.in_ok-first.ensures.serves) c.in_err-second.ensures.serves

pub returns-in_err-ban_by_facts-clause-serves : goal.returns-in_err-ban_by_facts-clause-serves
returns-in_err-ban_by_facts-clause-serves g c =
    serves_memory _ _ _ _ _ c.from_residual-in_err-ban_by_facts.ensures.1 (served_then _ _ _ _ _ _ (served_one _ _ _ _ _ c.in_ok-first.ensures.serves) (served_one _ _ _ _ _ c.in_ok-second.ensures.serves))

pub returns : goal.returns
returns g c =
    let mid = g.O.Oracle.known c.claims_of.new.asker.oracle.now in
    let new = g.O.Oracle.known c.claims_of-2.new.asker.oracle.now in
    let one = subst (λ (row : List InputClaims). IsRow (map decided_by mid.facts) First c.args.pair.from row) (sym c.deref.ensures.value) c.in_ok-first.ensures.row in
    let other = subst (λ (row : List InputClaims). IsRow (map decided_by new.facts) Second c.args.pair.to row) (sym c.deref-2.ensures.value) c.in_ok-second.ensures.row in
    let rows = both_rows mid new c.args.pair c.deref.result.now c.deref-2.result.now c.in_ok-second.ensures.serves.grows one other in
    let first = ap length c.deref.ensures.value ∙ c.in_ok-first.ensures.whole in
    let second = ap length c.deref-2.ensures.value ∙ c.in_ok-second.ensures.whole in
    let graphs_are = c.requires.may.graphs_are ∙ (sym c.in_ok-first.ensures.serves.grows.graphs ∙ sym c.in_ok-second.ensures.serves.grows.graphs) in
    let lawful = subst (λ (gr : Graphs). AreFacts gr new.facts) (sym graphs_are) c.in_ok-second.ensures.serves.grows.lawful in
    record {
      same = same_then c.in_ok-first.ensures.same c.in_ok-second.ensures.same;
      serves = serves_ok _ _ _ _ _ _ refl (served_then _ _ _ _ _ _ (served_one _ _ _ _ _ c.in_ok-first.ensures.serves) (served_one _ _ _ _ _ c.in_ok-second.ensures.serves));
      shown = shown_by_rows c.args.graphs.now (map decided_by new.facts) c.args.pairs.now c.args.pair c.deref.result.now c.deref-2.result.now c.in_ok-ban_by_facts.field-0 rows c.in_ok-ban_by_facts.ensures.shown;
      none = nothing_by_rows c.args.graphs.now new c.args.pairs.now c.args.pair c.deref.result.now c.deref-2.result.now c.in_ok-ban_by_facts.field-0 lawful first second rows c.in_ok-ban_by_facts.ensures.none;
    }
