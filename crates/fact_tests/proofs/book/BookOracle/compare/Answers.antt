use Rattle.std.proofs.Common.{subst, ◌∙◌, true}
use Rattle.std.specs.Result.{IfOk}
use Rattle.net_core.specs.Sides.{Graphs}
use Rattle.ask_core.specs.declared.question.Answer.{Answer}
use Rattle.oracle_core.specs.declared.oracle.Compared.{Compared}
use Rattle.oracle_core.specs.Oracles.{IsCompared}
use Rattle.fact_tests.proofs.BookLemmas.{answers_then, differs}
use Rattle.fact_tests.proofs.book.BookOracle.compare.Goals as goal

pub returns-in_ok-from_slice-in-Vector : goal.returns-in_ok-from_slice-in-Vector
returns-in_ok-from_slice-in-Vector g c =
    differs c.args.matching.now c.args.output true c.args.self.now c.answer.new.self c.args.ledger.now c.answer.new.ledger c.answer.result _ _ _ c.requires.ports c.answer.ensures.serves c.in_ok-vector.was c.in-Vector.is c.in_ok-vector.ensures.answer (c.in_ok-from_slice-in-Vector.ensures ∙ c.deref.ensures.value)

pub returns-in-Refuted : goal.returns-in-Refuted
returns-in-Refuted g c =
    let before = c.answer.ensures.serves in
    record {
      serves = answers_then {X = Answer} {Y = Compared} c.args.self.now c.answer.new.self c.compare_false.new.self c.args.ledger.now c.answer.new.ledger c.compare_false.new.ledger c.answer.result c.in_ok-vector.field-0 c.compare_false.result c.in_ok-vector.was before c.compare_false.ensures.serves;
      compared = subst (λ (g : Graphs). IfOk c.compare_false.result (IsCompared g c.args.matching.now c.args.output)) before.grows.graphs c.compare_false.ensures.compared;
    }
