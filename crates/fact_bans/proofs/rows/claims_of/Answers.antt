use Rattle.std.proofs.Common.{◌<◌, ◌∙◌, length, ap, refl, sym, subst, arith}
use Rattle.circuits.specs.Netlists.{Net}
use Rattle.net_core.specs.Sides.{Graphs, graph_of}
use Rattle.fact_bans.proofs.AskingLemmas.{same_none, same_then}
use Rattle.fact_bans.proofs.FactLemmas.{telling_more, telling_start}
use Rattle.fact_bans.proofs.ServeLemmas.{served_one, served_then, serves_err, serves_memory, serves_ok}
use Rattle.fact_bans.proofs.rows.claims_of.Goals as goal

pub loop-input-init : goal.loop-input-init
loop-input-init g c =
    (same_none, telling_start (g.O.Oracle.known c.args.asker.now.oracle.now) c.args.asker.now.ledger.now c.args.side c.args.output c.new-row.result c.facts-facts.ensures.lawful c.requires.may.suits c.new-row.ensures)

pub decide_both-requires-clause-output : goal.decide_both-requires-clause-output
decide_both-requires-clause-output g c =
    subst (λ (gr : Graphs). c.args.output < length (graph_of gr c.args.side).outputs) (c.requires.may.graphs_are ∙ sym c.loop-input.invariant.1.served.grows.graphs) c.requires.output

pub decide_both-requires-clause-input : goal.decide_both-requires-clause-input
decide_both-requires-clause-input g c =
    subst (λ (gr : Graphs). c.loop-input.input < (graph_of gr c.args.side).inputs) (c.requires.may.graphs_are ∙ sym c.loop-input.invariant.1.served.grows.graphs) (omega (arith, c.loop-input-test.true, c.inputs-inputs.ensures.value, ap (λ (net : Net). net.inputs) c.side.ensures))

pub decide_both-requires-clause-suits : goal.decide_both-requires-clause-suits
decide_both-requires-clause-suits g c = c.loop-input.invariant.1.served.suits

pub loop-input-preserved : goal.loop-input-preserved
loop-input-preserved g c =
    (same_then c.loop-input.invariant.0 c.in_ok-claims.ensures.same, telling_more _ _ _ _ _ _ _ _ _ _ _ _ c.loop-input.invariant.1 (served_one _ _ _ _ _ c.in_ok-claims.ensures.serves) c.in_ok-claims.ensures.decided c.in_ok-push.ensures.ok)

pub returns-in_err-claims-clause-serves : goal.returns-in_err-claims-clause-serves
returns-in_err-claims-clause-serves g c =
    serves_err _ _ _ _ _ _ _ c.in_err-claims.field-0.0 c.from_residual.ensures.1 c.loop-input.invariant.1.served c.in_err-claims.ensures.serves

pub returns-in_err-push-clause-serves : goal.returns-in_err-push-clause-serves
returns-in_err-push-clause-serves g c =
    serves_memory _ _ _ _ _ c.from_residual-in_err-push.ensures.1 (served_then _ _ _ _ _ _ c.loop-input.invariant.1.served (served_one _ _ _ _ _ c.in_ok-claims.ensures.serves))

pub returns-clause-serves : goal.returns-clause-serves
returns-clause-serves g c = serves_ok _ _ _ _ _ _ refl c.loop-input.invariant.1.served
