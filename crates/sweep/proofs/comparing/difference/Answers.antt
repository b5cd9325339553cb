-- The query that is asked is that of the pair.
use Rattle.std.proofs.Common.{Ok, subst, sym}
use Rattle.sweep.specs.Asking.{Decides}
use Rattle.ask_core.specs.Answers.{Asks, IsAskedIn}
use Rattle.sweep.specs.Comparing.{IsFound, pair_query}
use Rattle.sweep.specs.Exposed.{both}
use Rattle.sweep.proofs.PairLemmas.{asks_here, fits_here, found_decides, halted_here}
use Rattle.sweep.proofs.comparing.difference.Goals as goal

pub ask-requires-clause-fits : goal.ask-requires-clause-fits
ask-requires-clause-fits c =
    fits_here c.args.exposed.now c.args.pair c.args.value c.inputs.result c.new-graphs.result c.query_of-query.result c.requires.exposed c.requires.pair c.new-graphs.ensures c.inputs.ensures.value c.query_of-query.ensures

pub returns-in_err-answer : goal.returns-in_err-answer
returns-in_err-answer c =
    halted_here c.args.exposed.now c.args.pair c.args.value c.inputs.result c.new-graphs.result c.query_of-query.result c.args.ledger.now c.ask.new.ledger c.from_residual.result c.in_err-answer.field-0.0 c.from_residual.ensures.1 c.requires.exposed c.requires.pair c.new-graphs.ensures c.inputs.ensures.value c.query_of-query.ensures c.in_err-answer.ensures.asks.stop

pub returns : goal.returns
returns c =
    let net = c.args.exposed.now in
    let q = pair_query net.inputs c.args.pair c.args.value in
    let asks = asks_here net c.args.pair c.args.value c.inputs.result c.new-graphs.result c.query_of-query.result c.args.ledger.now c.ask.new.ledger c.ask.result c.new-graphs.ensures c.inputs.ensures.value c.query_of-query.ensures c.ask.ensures.asks in
    let here = subst (Asks IsAskedIn (both net) q c.args.ledger.now c.ask.new.ledger) c.in_ok-answer.was asks in
    subst (λ x. Decides (IsFound net c.args.pair c.args.value) (both net) q c.args.ledger.now c.ask.new.ledger (Ok x)) (sym c.vector_in.ensures) (found_decides net c.args.pair c.args.value c.args.ledger.now c.ask.new.ledger c.in_ok-answer.answer c.inputs.ensures.graph c.requires.exposed c.requires.pair here)
