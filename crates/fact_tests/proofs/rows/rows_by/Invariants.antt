-- The calls so far were answered, and the outputs so far have their rows.
use Rattle.std.proofs.Common.{◌≡◌, length}
use Rattle.circuits.specs.Literals.{EachAt}
use Rattle.oracle_core.specs.Oracles.{HasServed}
use Rattle.fact_tests.specs.Outputs.{function_at, inputs_in}
use Rattle.claim_core.specs.Rows.{IsRow}
use Rattle.fact_tests.proofs.rows.rows_by.Given as goal

abbrev pub invariant-loop-number : goal.invariant-loop-number
invariant-loop-number g l =
    HasServed (g.O.Oracle.known l.fn.oracle) (g.O.Oracle.known l.oracle) l.fn.ledger l.ledger
    × (length l.rows.items ≡ l.number)
    × EachAt (λ k row. IsRow (inputs_in l.graphs) (function_at l.graphs k) row) l.rows.items
