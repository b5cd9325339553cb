use Rattle.std.proofs.Common.{◌∙◌, ◌<◌, length, sym, subst, ap, refl, arith}
use Rattle.circuits.specs.Matches.{HavePorts}
use Rattle.circuits.specs.Netlists.{Net}
use Rattle.net_core.specs.Sides.{Graphs}
use Rattle.match_search.specs.Founds.{IsComparison}
use Rattle.match_search.proofs.CompareLemmas.{comparing_start, logs_more}
use Rattle.fact_bans.proofs.ServeLemmas.{served_one, served_then, serves_ok, serves_err}
use Rattle.match_search.proofs.candidate.compare_all.Goals as goal

pub loop-output-init : goal.loop-output-init
loop-output-init g c =
    comparing_start c.args.graphs.now c.args.matching.now (g.O.Oracle.known c.args.oracle.now) c.args.ledger.now c.args.logs.now c.requires.may c.requires.none

pub compare_one-requires-clause-ports : goal.compare_one-requires-clause-ports
compare_one-requires-clause-ports g c =
    subst (λ (gr : Graphs). HavePorts gr.first gr.second c.args.matching.now.inputs c.args.matching.now.outputs) (c.requires.may.graphs_are ∙ sym c.loop-output.invariant.served.grows.graphs) c.requires.ports

pub compare_one-requires-clause-output : goal.compare_one-requires-clause-output
compare_one-requires-clause-output g c =
    subst (λ (gr : Graphs). c.loop-output.output < length gr.first.outputs) (c.requires.may.graphs_are ∙ sym c.loop-output.invariant.served.grows.graphs) (omega (arith, c.loop-output-test.true, ap length c.outputs.ensures.value, ap (λ (net : Net). length net.outputs) c.first.ensures.value))

pub compare_one-requires-clause-suits : goal.compare_one-requires-clause-suits
compare_one-requires-clause-suits g c = c.loop-output.invariant.served.suits

pub returns-in_err-vector-clause-serves : goal.returns-in_err-vector-clause-serves
returns-in_err-vector-clause-serves g c =
    serves_err _ _ _ _ _ _ _ c.in_err-vector.field-0.0 c.from_residual.ensures.1 c.loop-output.invariant.served c.in_err-vector.ensures.serves

pub returns-in-Some-clause-serves : goal.returns-in-Some-clause-serves
returns-in-Some-clause-serves g c =
    serves_ok _ _ _ _ _ _ refl (served_then _ _ _ _ _ _ c.loop-output.invariant.served (served_one _ _ _ _ _ c.in_ok-vector.ensures.serves))

pub loop-output-preserved : goal.loop-output-preserved
loop-output-preserved g c =
    let same = c.requires.may.graphs_are ∙ sym c.loop-output.invariant.served.grows.graphs in
    let compared = subst (λ (gr : Graphs). IsComparison gr c.args.matching.now c.loop-output.output c.loop-output.logs c.compare_one.new.logs c.in_ok-vector.field-0) (sym same) c.in_ok-vector.ensures.compared in
    let adds = rw c.in_default.is at compared in
    record {
      served = served_then _ _ _ _ _ _ c.loop-output.invariant.served (served_one _ _ _ _ _ c.in_ok-vector.ensures.serves);
      shown = logs_more c.args.graphs.now c.args.matching.now c.loop-output.output c.loop-output.logs c.compare_one.new.logs c.loop-output.invariant.shown adds;
    }
