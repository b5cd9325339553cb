-- The query was asked by lemmas of its own.
use Rattle.std.proofs.Common.{inr, rules}
use Rattle.ask_core.proofs.AskLemmas.{stopped_weaker}
use Rattle.fact_tests.proofs.AskingLemmas.{asked_of, decides_err}
use Rattle.fact_tests.proofs.asking.answer_to.Goals as goal

pub returns-in_err-answer : goal.returns-in_err-answer
returns-in_err-answer g c =
    let asked = asked_of c.args.graphs.now c.args.query.now c.args.ledger.now c.ask_watched.new.ledger c.requires.fits in
    decides_err _ _ _ _ _ _ c.from_residual.ensures.1 (stopped_weaker c.args.ledger.now c.ask_watched.new.ledger c.in_err-answer.field-0.0 asked c.in_err-answer.ensures.asks.stop)

pub returns : goal.returns
returns g c = record {
  answer = search rules;
  decided = inr (asked_of _ _ _ _ c.requires.fits c.in_ok-answer.ensures.asks.asked);
  unspent = search rules;
  stop = tt;
}
