-- The inputs belong to two classes, or to one.
use Rattle.std.proofs.Common.{arith}
use Rattle.fact_tests.proofs.ClassLemmas.{sym_apart, sym_same}
use Rattle.fact_tests.proofs.symmetric_pairs.sym_of.Goals as goal

pub returns-then-one-other : goal.returns-then-one-other
returns-then-one-other c =
    λ n f end i j are first second order. sym_apart n f end i j c.args.classes.now c.args.one c.args.other are first second order (λ e. omega (arith, c.if-one-other.true, e))

pub returns : goal.returns
returns c =
    λ n f end i j are first second order. sym_same n f i j c.args.classes.now c.args.one c.args.other _ c.is_both-both.result c.sym_by.result first second order (omega (arith, c.if-one-other.false)) c.is_both-both.ensures c.sym_by.ensures
