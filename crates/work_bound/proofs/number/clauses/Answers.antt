-- 3^41 doesn't fit 64 bits.
use Rattle.std.proofs.Common.{arith, ◌+◌, ◌*◌}
use Rattle.std.proofs.Math.Nat.{pow-le-pow_right}
use Rattle.work_bound.proofs.number.clauses.Goals as goal

pub returns-then-variables-gt40 : goal.returns-then-variables-gt40
returns-then-variables-gt40 c = λ fits.
    omega (arith, fits, pow-le-pow_right {n = 3} (omega arith) {i = 41} {j = c.args.inputs + 2 * c.args.gates + 1} (omega (arith, c.if-variables-gt40.true, c.from.ensures)))
