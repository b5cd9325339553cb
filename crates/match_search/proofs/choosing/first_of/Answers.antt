use Rattle.std.proofs.Common.{arith, below_more}
use Rattle.match_search.proofs.choosing.first_of.Goals as goal

pub loop-number-preserved : goal.loop-number-preserved
loop-number-preserved c =
    below_more _ _ c.loop-number.invariant (c.is_free.ensures.taken c.if-is_free.false (omega (arith, c.ports-number-end.ensures, c.loop-number-test.true)))

pub returns-clause-none : goal.returns-clause-none
returns-clause-none c = λ port below. c.loop-number.invariant port (omega (arith, below, c.ports-number-end.ensures, c.loop-number-test.false))
