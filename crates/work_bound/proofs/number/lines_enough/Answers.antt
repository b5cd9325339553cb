-- A factor that doesn't fit.
use Rattle.std.proofs.Common.{arith, ◌+◌, ◌*◌, ◌^◌}
use Rattle.std.proofs.Math.Nat.{one-le-pow}
use Rattle.oracle_core.specs.Enough.{claims_of, matches_of}
use Rattle.work_bound.proofs.NumberLemmas.{first_too_large, queries_some, second_too_large}
use Rattle.work_bound.proofs.number.lines_enough.Goals as goal

pub returns-in_err-clauses : goal.returns-in_err-clauses
returns-in_err-clauses c =
    let n = c.args.inputs in
    let m = c.args.outputs in
    rw c.from_residual.ensures (first_too_large (3 ^ (n + 2 * c.args.gates + 1)) (claims_of n m + matches_of n m) (queries_some n m (omega (arith, c.if-outputs-eq0.false))) c.in_err-clauses.ensures)

pub returns-in_err-queries : goal.returns-in_err-queries
returns-in_err-queries c =
    let n = c.args.inputs in
    let m = c.args.outputs in
    let variables = n + 2 * c.args.gates + 1 in
    rw c.from_residual-in_err-queries.ensures (second_too_large (3 ^ variables) (claims_of n m + matches_of n m) (omega (arith, one-le-pow variables 3 (omega arith))) c.in_err-queries.ensures)
