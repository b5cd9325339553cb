use Rattle.pair_search.proofs.ResolveLemmas.{last_at, passed_all, passed_more}
use Rattle.pair_search.proofs.resolution.last_of.Goals as goal

pub returns-then-is_at-clause-found : goal.returns-then-is_at-clause-found
returns-then-is_at-clause-found c =
    last_at c.args.assigned.now c.args.pairs.now c.loop-left.left c.args.limit c.loop-left-test.true c.loop-left.invariant (c.is_at.ensures.yes c.if-is_at.true)

pub loop-left-preserved : goal.loop-left-preserved
loop-left-preserved c =
    passed_more c.args.assigned.now c.args.pairs.now c.loop-left.left c.args.limit c.loop-left-test.true c.loop-left.invariant (c.is_at.ensures.no c.if-is_at.false)

pub returns-clause-none : goal.returns-clause-none
returns-clause-none c =
    passed_all c.args.assigned.now c.args.pairs.now c.loop-left.left c.args.limit c.loop-left-test.false c.requires c.loop-left.invariant
