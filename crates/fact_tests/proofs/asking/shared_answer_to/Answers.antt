-- A query that was asked by lemmas was asked.
use Rattle.fact_tests.proofs.AskingLemmas.{asked_by_of, decides_of}
use Rattle.fact_tests.proofs.asking.shared_answer_to.Goals as goal

pub returns-clause-decides : goal.returns-clause-decides
returns-clause-decides g c = decides_of _ _ _ _ c.ask.result (asked_by_of _ _ _ _ c.requires.fits) c.ask.ensures.asks
