-- The spans have all gates so far.
use Rattle.fact_tests.specs.LocalExchanges.{AreSpans}
use Rattle.fact_tests.proofs.readers.spans_of.Given as goal

abbrev pub invariant-loop-place : goal.invariant-loop-place
invariant-loop-place l = AreSpans l.graph l.place l.spans
