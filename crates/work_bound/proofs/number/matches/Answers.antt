-- A factor that doesn't fit.
use Rattle.std.proofs.Common.{arith, ◌*◌, ◌^◌}
use Rattle.work_bound.proofs.NumberLemmas.{feeds_some, first_too_large, pairs_are}
use Rattle.work_bound.proofs.number.matches.Goals as goal

pub returns-in_err-pairs : goal.returns-in_err-pairs
returns-in_err-pairs c =
    let n = c.args.inputs in
    let m = c.args.outputs in
    rw c.from_residual.ensures (first_too_large (4 * m ^ 2) ((2 * n) ^ n) (feeds_some n) (λ small. c.in_err-pairs.ensures (omega (arith, small, pairs_are m))))
