use Rattle.std.proofs.Common.{arith}
use Rattle.match_search.proofs.StepLemmas.{may_go_on, steps_err, steps_ok, steps_stop, way_follows, way_more, way_start}
use Rattle.match_search.proofs.following.settle.Goals as goal

pub loop-turn-init : goal.loop-turn-init
loop-turn-init g c = record { way = way_start c.requires.may; less = omega arith }

pub returns-in_err-conflict-clause-steps : goal.returns-in_err-conflict-clause-steps
returns-in_err-conflict-clause-steps g c = steps_stop c.from_residual.ensures.1 c.loop-turn.invariant.way

pub returns-in-Some-clause-steps : goal.returns-in-Some-clause-steps
returns-in-Some-clause-steps g c = steps_ok (way_follows c.bans.ensures c.loop-turn.invariant.way c.in_ok-conflict.ensures.propagates)

pub returns-in-Some-clause-less : goal.returns-in-Some-clause-less
returns-in-Some-clause-less g c = omega (arith, c.loop-turn.invariant.less, c.in_ok-conflict.ensures.propagates.less)

pub ask_next-requires : goal.ask_next-requires
ask_next-requires g c = record { may = may_go_on c.requires.may.may (way_follows c.bans.ensures c.loop-turn.invariant.way c.in_ok-conflict.ensures.propagates) }

pub returns-in_err-more-clause-steps : goal.returns-in_err-more-clause-steps
returns-in_err-more-clause-steps g c = steps_err c.from_residual-in_err-more.ensures.1 (way_follows c.bans.ensures c.loop-turn.invariant.way c.in_ok-conflict.ensures.propagates) c.in_err-more.ensures.steps

pub returns-then-more-has_had_its_share-clause-steps : goal.returns-then-more-has_had_its_share-clause-steps
returns-then-more-has_had_its_share-clause-steps g c = steps_ok (way_more (way_follows c.bans.ensures c.loop-turn.invariant.way c.in_ok-conflict.ensures.propagates) c.in_ok-more.ensures.steps)

pub returns-then-more-has_had_its_share-clause-less : goal.returns-then-more-has_had_its_share-clause-less
returns-then-more-has_had_its_share-clause-less g c = omega (arith, c.loop-turn.invariant.less, c.in_ok-conflict.ensures.propagates.less, c.in_ok-more.ensures.less)

pub loop-turn-preserved : goal.loop-turn-preserved
loop-turn-preserved g c = record { way = way_more (way_follows c.bans.ensures c.loop-turn.invariant.way c.in_ok-conflict.ensures.propagates) c.in_ok-more.ensures.steps; less = omega (arith, c.loop-turn.invariant.less, c.in_ok-conflict.ensures.propagates.less, c.in_ok-more.ensures.less) }

pub returns-clause-steps : goal.returns-clause-steps
returns-clause-steps g c = steps_ok c.loop-turn.invariant.way

pub returns-clause-less : goal.returns-clause-less
returns-clause-less g c = c.loop-turn.invariant.less
