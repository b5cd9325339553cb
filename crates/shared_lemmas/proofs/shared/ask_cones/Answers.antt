-- A query that is asked by itself and a refutation by structure leave the stock as it is; the lines of the stock hold of
-- the query itself.
use Rattle.ask_core.proofs.BoundLemmas.{asks_weaker}
use Rattle.shared_lemmas.proofs.AnswerLemmas.{by_own, by_these, paid_alone}
use Rattle.shared_lemmas.proofs.PaidLemmas.{pays_of}
use Rattle.shared_lemmas.proofs.SharedLaws.{hold_of, own_feeds}
use Rattle.shared_lemmas.proofs.shared.ask_cones.Goals as goal

pub returns-then-are_small-stock-clause-asks : goal.returns-then-are_small-stock-clause-asks
returns-then-are_small-stock-clause-asks g c = asks_weaker _ _ _ _ c.ask_watched.result (by_own _ _ _ _ _) c.ask_watched.ensures.asks

pub returns-then-are_small-stock-clause-paid : goal.returns-then-are_small-stock-clause-paid
returns-then-are_small-stock-clause-paid g c known = paid_alone _ _ _ _ _ c.ask_watched.result c.ask_watched.ensures.asks known

pub returns-in-Some-clause-asks : goal.returns-in-Some-clause-asks
returns-in-Some-clause-asks g c = asks_weaker _ _ _ _ c.answer_by.result (by_own _ _ _ _ _) c.answer_by.ensures

pub returns-in-Some-clause-paid : goal.returns-in-Some-clause-paid
returns-in-Some-clause-paid g c known = paid_alone _ _ _ _ _ c.answer_by.result c.answer_by.ensures known

pub lemmas_for-requires : goal.lemmas_for-requires
lemmas_for-requires g c = hold_of _ _ _ _ _ c.requires.question.of_graphs c.requires.question.of_query c.requires.hold c.args.question.now.cones.now.query (own_feeds c.args.question.now.cones.now.query)

pub returns-clause-asks : goal.returns-clause-asks
returns-clause-asks g c =
    asks_weaker _ _ _ _ c.ask_by.result (by_these _ _ _ _ _ _ (λ known. pays_of _ _ _ _ _ _ c.requires.question.of_graphs c.requires.question.of_query c.in_ok-lemmas.ensures.paid _ known)) c.ask_by.ensures.asks

pub returns-clause-paid : goal.returns-clause-paid
returns-clause-paid g c known =
    c.ask_by.ensures.paid (pays_of _ _ _ _ _ _ c.requires.question.of_graphs c.requires.question.of_query c.in_ok-lemmas.ensures.paid _ known) known
