-- The cones are those of the query.
use Rattle.std.proofs.Common.{List, sym, subst}
use Rattle.cnf_core.specs.declared.log.LogLine.{LogLine}
use Rattle.ask_core.specs.Answers.{IsAskedWith, IsStoppedAfter}
use Rattle.ask_core.proofs.BoundLemmas.{asks_err, bounded_with}
use Rattle.shared_lemmas.proofs.PaidLemmas.{all_after, log_of, log_paid, paid_of}
use Rattle.shared_lemmas.proofs.SharedLaws.{hold_of}
use Rattle.shared_lemmas.proofs.shared.ask_by.Goals as goal

pub finish-requires-clause-hold : goal.finish-requires-clause-hold
finish-requires-clause-hold g c = hold_of _ _ _ _ _ c.requires.question.of_graphs c.requires.question.of_query c.requires.hold

pub returns-in_err-answer-clause-asks : goal.returns-in_err-answer-clause-asks
returns-in_err-answer-clause-asks g c =
    asks_err c.args.question.now.graphs.now c.args.question.now.query.now c.args.ledger.now c.ask_guided.new.ledger _ c.in_err-answer.field-0.0 (bounded_with _ _ c.args.lemmas.now.lines.items _ _) c.from_residual.ensures.1 (subst (λ (ls : List LogLine). IsStoppedAfter (IsAskedWith ls c.args.question.now.graphs.now c.args.question.now.query.now c.args.ledger.now c.ask_guided.new.ledger) c.args.ledger.now c.ask_guided.new.ledger c.in_err-answer.field-0.0) c.deref.ensures.value c.in_err-answer.ensures.asks.stop)

pub returns-in_err-finish-clause-hold : goal.returns-in_err-finish-clause-hold
returns-in_err-finish-clause-hold g c = hold_of _ _ _ _ _ (sym c.requires.question.of_graphs) (sym c.requires.question.of_query) c.finish.ensures.hold

pub returns-clause-hold : goal.returns-clause-hold
returns-clause-hold g c = hold_of _ _ _ _ _ (sym c.requires.question.of_graphs) (sym c.requires.question.of_query) c.finish.ensures.hold

-- what was paid for before the question, and the lines of its log
pub returns-clause-paid : goal.returns-clause-paid
returns-clause-paid g c lemmas stock =
    let new = c.ask_guided.new.ledger in
    let is = subst (λ (ls : List LogLine). IsAskedWith ls c.args.question.now.graphs.now c.args.question.now.query.now c.args.ledger.now new) c.deref.ensures.value c.in_ok-answer.ensures.asks.asked in
    let log = log_paid _ _ _ c.args.ledger.now new c.in_ok-answer.answer is c.in_ok-answer.ensures.paid_for lemmas in
    let kept = all_after c.args.question.now.graphs.now _ c.args.question.now.query.now _ _ c.args.stock.now.lines.items c.args.ledger.now new is stock in
    paid_of _ _ _ _ _ _ (sym c.requires.question.of_graphs) (sym c.requires.question.of_query) (c.in_ok-finish.ensures.paid new.asked (log_of _ _ _ _ _ _ c.requires.question.of_graphs c.requires.question.of_query log) (paid_of _ _ _ _ _ _ c.requires.question.of_graphs c.requires.question.of_query kept))
