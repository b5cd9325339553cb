use Rattle.std.proofs.Common.{◌∙◌, false}
use Rattle.fact_tests.proofs.BookLemmas.{differs}
use Rattle.fact_tests.proofs.book.Book.compare_false.Goals as goal

pub returns-in_ok-from_slice-in-Vector : goal.returns-in_ok-from_slice-in-Vector
returns-in_ok-from_slice-in-Vector g c =
    differs c.args.matching.now c.args.output false c.args.self.now c.answer.new.self c.args.ledger.now c.answer.new.ledger c.answer.result _ _ _ c.requires.ports c.answer.ensures.serves c.in_ok-vector.was c.in-Vector.is c.in_ok-vector.ensures.answer (c.in_ok-from_slice-in-Vector.ensures ∙ c.deref.ensures.value)
