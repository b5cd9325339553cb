-- The query is the last one.
use Rattle.std.proofs.Common.{ap, ◌∙◌}
use Rattle.ask_core.proofs.AskLemmas.{stopped_weaker}
use Rattle.ask_core.proofs.BoundLemmas.{asks_err}
use Rattle.shared_lemmas.proofs.AnswerLemmas.{bounded_by, by_known, paid_one}
use Rattle.shared_lemmas.proofs.SharedLaws.{of_one}
use Rattle.shared_lemmas.proofs.shared.ask_sharing.Goals as goal

pub returns-in_err-answer-clause-shared : goal.returns-in_err-answer-clause-shared
returns-in_err-answer-clause-shared g c = of_one _ _ _ _ (ap (λ last_query. last_query.items) c.ask_cones.ensures.last_query ∙ c.in_ok-keep_lines_under.ensures.own) c.ask_cones.ensures.hold

pub returns-in_err-answer-clause-asks : goal.returns-in_err-answer-clause-asks
returns-in_err-answer-clause-asks g c =
    asks_err _ _ _ _ _ c.in_err-answer.field-0.0 (bounded_by _ _ _ _ _) c.from_residual-in_err-answer.ensures.1 (stopped_weaker _ _ _ (by_known _ _ _ _ _ _ (λ asked known. c.in_ok-keep_lines_under.ensures.paid asked known)) c.in_err-answer.ensures.asks.stop)

pub returns-in_err-trim_answer-clause-shared : goal.returns-in_err-trim_answer-clause-shared
returns-in_err-trim_answer-clause-shared g c = of_one _ _ _ _ (ap (λ last_query. last_query.items) c.ask_cones.ensures.last_query ∙ c.in_ok-keep_lines_under.ensures.own) c.ask_cones.ensures.hold

pub returns-clause-shared : goal.returns-clause-shared
returns-clause-shared g c = of_one _ _ _ _ (ap (λ last_query. last_query.items) c.ask_cones.ensures.last_query ∙ c.in_ok-keep_lines_under.ensures.own) c.ask_cones.ensures.hold

pub returns-clause-asks : goal.returns-clause-asks
returns-clause-asks g c = record {
  answer = c.in_ok-trim_answer.ensures;
  asked = by_known _ _ _ _ _ _ (λ asked known. c.in_ok-keep_lines_under.ensures.paid asked known) c.in_ok-answer.ensures.asks.asked;
  not_spent = c.in_ok-answer.ensures.asks.not_spent;
  stop = tt;
  bounded = c.in_ok-answer.ensures.asks.bounded;
  bounded_stop = tt;
}

pub returns-clause-paid : goal.returns-clause-paid
returns-clause-paid g c known =
    paid_one _ _ _ _ _ (ap (λ last_query. last_query.items) c.ask_cones.ensures.last_query ∙ c.in_ok-keep_lines_under.ensures.own) (c.in_ok-answer.ensures.paid (c.in_ok-keep_lines_under.ensures.paid _ known))
