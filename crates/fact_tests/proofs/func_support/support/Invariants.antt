-- The calls so far were answered, and the inputs so far are listed.
use Rattle.oracle_core.specs.Oracles.{HasServed}
use Rattle.fact_tests.specs.Outputs.{function_at, inputs_in}
use Rattle.claim_core.specs.Rows.{ListsSupport}
use Rattle.fact_tests.proofs.func_support.support.Given as goal

abbrev pub invariant-loop-input : goal.invariant-loop-input
invariant-loop-input g l =
    HasServed (g.O.Oracle.known l.fn.oracle) (g.O.Oracle.known l.oracle) l.fn.ledger l.ledger
    × ListsSupport (inputs_in l.output.graphs.now) (function_at l.output.graphs.now l.output.number) 0 l.input l.entries
