-- The calls so far were answered, and the input belongs to none of the classes so far.
use Rattle.std.proofs.Common.{ℕ, ◌<◌, length, get_or}
use Rattle.oracle_core.specs.Oracles.{HasServed}
use Rattle.fact_tests.specs.declared.exchange_classes.Class.{Class}
use Rattle.fact_tests.specs.Exchanges.{IsStranger}
use Rattle.fact_tests.specs.Outputs.{function_at, inputs_in}
use Rattle.fact_tests.proofs.exchange_classes.find_among.Given as goal

abbrev pub invariant-loop-number : goal.invariant-loop-number
invariant-loop-number g l =
    HasServed (g.O.Oracle.known l.fn.oracle) (g.O.Oracle.known l.oracle) l.fn.ledger l.ledger
    × ((k : ℕ) (d : Class) → k < l.number → k < length l.classes → IsStranger (inputs_in l.output.graphs.now) (function_at l.output.graphs.now l.output.number) (get_or l.classes k d) l.entry.0)
