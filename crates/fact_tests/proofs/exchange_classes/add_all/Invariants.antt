-- The calls so far were answered, and the inputs so far are sorted.
use Rattle.oracle_core.specs.Oracles.{HasServed}
use Rattle.fact_tests.specs.Exchanges.{Sorts}
use Rattle.fact_tests.specs.Outputs.{function_at, inputs_in}
use Rattle.fact_tests.proofs.exchange_classes.add_all.Given as goal

abbrev pub invariant-loop-entry : goal.invariant-loop-entry
invariant-loop-entry g l =
    HasServed (g.O.Oracle.known l.fn.oracle) (g.O.Oracle.known l.oracle) l.fn.ledger l.ledger
    × Sorts (inputs_in l.output.graphs.now) (function_at l.output.graphs.now l.output.number) l.support l.entry-index l.sorted
