use Rattle.std.proofs.Common.{Ok, sym, subst, All}
use Rattle.net_core.specs.Sides.{Graphs}
use Rattle.account_core.specs.Facts.{AreFacts}
use Rattle.oracle_core.specs.Oracles.{Known, Serves}
use Rattle.ask_core.specs.declared.question.Answer.{Answer}
use Rattle.fact_tests.specs.Books.{IsKept, known_by}
use Rattle.fact_tests.proofs.BookLemmas.{answer_ok, answer_stopped, kept_more, missing_kept}
use Rattle.fact_tests.proofs.book.Book.ask_new.Goals as goal

pub invariant_of-self-2 : goal.invariant_of-self-2
invariant_of-self-2 g c = record {
  facts_are = subst (λ (graphs : Graphs). AreFacts graphs c.self.inside.facts) (sym c.answer_to.ensures.same) c.self.invariant.facts_are;
  kept_are = subst (λ (graphs : Graphs). All (IsKept graphs) c.add.new.self) (sym c.answer_to.ensures.same) (kept_more (g.D.Decide.circuits c.self.inside.decider) c.self.inside.facts c.self.inside.kept c.args.query c.args.self.now c.self.view_is c.self.invariant.facts_are c.requires.of_match c.requires.missing c.in_ok-answer.answer c.add.new.self c.self.invariant.kept_are c.in_ok-answer.ensures.decides.answer c.in_ok-add.ensures.added);
}

pub returns-clause-serves : goal.returns-clause-serves
returns-clause-serves g c =
    subst (λ (graphs : Graphs). Serves {X = Answer} c.args.self.now (known_by graphs c.self.inside.facts c.add.new.self) c.args.ledger.now c.answer_to.new.ledger (Ok c.in_ok-copy.copy)) (sym c.answer_to.ensures.same)
    (answer_ok (g.D.Decide.circuits c.self.inside.decider) c.self.inside.facts c.self.inside.kept c.args.query c.args.self.now c.self.view_is c.self.invariant.facts_are c.requires.of_match c.requires.missing {X = Answer} c.args.ledger.now c.answer_to.new.ledger c.in_ok-answer.answer c.add.new.self c.in_ok-copy.copy c.in_ok-answer.ensures.decides.decided c.in_ok-answer.ensures.decides.unspent c.requires.suits c.in_ok-add.ensures.added)

pub returns-in_err-answer-clause-serves : goal.returns-in_err-answer-clause-serves
returns-in_err-answer-clause-serves g c =
    let graphs = g.D.Decide.circuits c.self.inside.decider in
    let facts = c.self.inside.facts in
    let kept = c.self.inside.kept in
    let before = c.args.ledger.now in
    let after = c.answer_to.new.ledger in
    let r = c.from_residual.result in
    let same : Serves {X = Answer} c.args.self.now c.args.self.now before after r = answer_stopped graphs facts kept c.args.query c.args.self.now c.self.view_is c.self.invariant.facts_are c.requires.of_match c.requires.missing {X = Answer} before after r c.in_err-answer.field-0.0 c.from_residual.ensures.1 c.requires.suits c.in_err-answer.ensures.decides.stop in
    subst (λ (now : Graphs). Serves {X = Answer} c.args.self.now (known_by now facts kept) before after r) (sym c.answer_to.ensures.same) (subst (λ (k : Known). Serves {X = Answer} c.args.self.now k before after r) (sym c.self.view_is) same)

pub add-requires : goal.add-requires
add-requires g c =
    missing_kept (g.D.Decide.circuits c.self.inside.decider) c.self.inside.facts c.self.inside.kept c.args.query c.args.self.now c.self.view_is c.self.invariant.facts_are c.requires.of_match c.requires.missing
