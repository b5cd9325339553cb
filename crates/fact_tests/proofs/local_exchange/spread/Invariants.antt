-- What the gates so far show.
use Rattle.std.proofs.Common.{◌≤◌}
use Rattle.fact_tests.specs.LocalExchanges.{Spreads}
use Rattle.fact_tests.proofs.local_exchange.spread.Given as goal

abbrev pub invariant-loop-place : goal.invariant-loop-place
invariant-loop-place l = Spreads l.graph l.i l.j l.inverted l.start l.place l.end l.near × (l.start ≤ l.place)
