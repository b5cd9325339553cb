use Rattle.std.proofs.Common.{ap, length, map, refl, subst, arith, ℕ}
use Rattle.circuits.specs.Netlists.{Net}
use Rattle.account_core.specs.Given.{decided_by}
use Rattle.fact_bans.proofs.AskingLemmas.{same_none, same_then}
use Rattle.fact_bans.proofs.ServeLemmas.{ask_later, served_one, served_then, serves_err, serves_memory, serves_ok}
use Rattle.class_refine.specs.Rows.{AreRowsOf}
use Rattle.class_refine.proofs.RowsLemmas.{listing_more, listing_start}
use Rattle.class_refine.proofs.rows.side_rows.Goals as goal

pub loop-output-init : goal.loop-output-init
loop-output-init g c =
    (same_none, listing_start c.args.graphs.now (g.O.Oracle.known c.args.asker.now.oracle.now) c.args.asker.now.ledger.now c.args.side c.new-rows.result c.facts-facts.ensures.lawful c.requires.may.suits c.new-rows.ensures)

pub claims_of-requires-clause-may : goal.claims_of-requires-clause-may
claims_of-requires-clause-may g c = ask_later _ _ _ _ _ c.requires.may c.loop-output.invariant.1.served

pub claims_of-requires-clause-output : goal.claims_of-requires-clause-output
claims_of-requires-clause-output g c = omega (arith, c.loop-output-test.true, ap length c.outputs.ensures.value, ap (λ (net : Net). length net.outputs) c.side.ensures)

pub loop-output-preserved : goal.loop-output-preserved
loop-output-preserved g c =
    (same_then c.loop-output.invariant.0 c.in_ok-row.ensures.same, listing_more _ _ _ _ _ _ _ _ _ _ _ _ c.loop-output.invariant.1 (served_one _ _ _ _ _ c.in_ok-row.ensures.serves) (record { is = c.in_ok-row.ensures.row; whole = c.in_ok-row.ensures.whole }) c.in_ok-push.ensures.ok)

pub returns-in_err-row-clause-serves : goal.returns-in_err-row-clause-serves
returns-in_err-row-clause-serves g c =
    serves_err _ _ _ _ _ _ _ c.in_err-row.field-0.0 c.from_residual.ensures.1 c.loop-output.invariant.1.served c.in_err-row.ensures.serves

pub returns-in_err-push-clause-serves : goal.returns-in_err-push-clause-serves
returns-in_err-push-clause-serves g c =
    serves_memory _ _ _ _ _ c.from_residual-in_err-push.ensures.1 (served_then _ _ _ _ _ _ c.loop-output.invariant.1.served (served_one _ _ _ _ _ c.in_ok-row.ensures.serves))

pub returns-clause-serves : goal.returns-clause-serves
returns-clause-serves g c = serves_ok _ _ _ _ _ _ refl c.loop-output.invariant.1.served

pub returns-clause-rows : goal.returns-clause-rows
returns-clause-rows g c =
    let new = g.O.Oracle.known c.loop-output.asker.oracle.now in
    subst (λ (n : ℕ). AreRowsOf c.args.graphs.now (map decided_by new.facts) c.args.side n c.loop-output.rows) (omega (arith, c.loop-output-test.false, ap length c.outputs.ensures.value, ap (λ (net : Net). length net.outputs) c.side.ensures)) c.loop-output.invariant.1.rows_are
