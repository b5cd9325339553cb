use Rattle.std.proofs.Common.{◌<◌, length, refl, sym, subst, arith}
use Rattle.net_core.specs.Sides.{Graphs, graph_of}
use Rattle.fact_bans.proofs.AskingLemmas.{same_none, same_then}
use Rattle.fact_bans.proofs.FactLemmas.{listing_start}
use Rattle.fact_bans.proofs.ServeLemmas.{served_one, served_then, serves_err, serves_ok}
use Rattle.fact_bans.proofs.lists.facts_of.Goals as goal

pub loop-input-init : goal.loop-input-init
loop-input-init g c =
    (same_none, listing_start (g.O.Oracle.known c.args.asker.now.oracle.now) c.args.asker.now.ledger.now c.args.request c.new-numbers.result c.requires.lawful c.requires.suits c.new-numbers.ensures)

pub add_facts-requires : goal.add_facts-requires
add_facts-requires g c =
    let served = c.loop-input.invariant.1.served in
    let request = c.args.request in
    record {
      may = record {
        lawful = served.grows.lawful;
        suits = served.suits;
        output = subst (λ (gr : Graphs). request.output < length (graph_of gr request.side).outputs) (sym served.grows.graphs) c.requires.output;
        within = subst (λ (gr : Graphs). c.loop-input.input < (graph_of gr request.side).inputs) (sym served.grows.graphs) (omega (arith, c.loop-input-test.true, c.requires.inputs));
        lists = c.loop-input.invariant.1.lists;
      };
    }

pub loop-input-preserved : goal.loop-input-preserved
loop-input-preserved g c = (
  same_then c.loop-input.invariant.0 c.in_ok-add_facts.ensures.same,
  record {
    served = served_then _ _ _ _ _ _ c.loop-input.invariant.1.served (served_one _ _ _ _ _ c.in_ok-add_facts.ensures.serves);
    lists = c.in_ok-add_facts.ensures.lists c.if-not-branch.false;
  },
)

pub returns-in_err-add_facts-clause-serves : goal.returns-in_err-add_facts-clause-serves
returns-in_err-add_facts-clause-serves g c =
    serves_err _ _ _ _ _ _ _ c.in_err-add_facts.field-0.0 c.from_residual.ensures.1 c.loop-input.invariant.1.served c.in_err-add_facts.ensures.serves

pub returns-then-not-branch-clause-serves : goal.returns-then-not-branch-clause-serves
returns-then-not-branch-clause-serves g c =
    serves_ok _ _ _ _ _ _ refl (served_then _ _ _ _ _ _ c.loop-input.invariant.1.served (served_one _ _ _ _ _ c.in_ok-add_facts.ensures.serves))
