use Rattle.match_search.proofs.StepLemmas.{may_go_on, on_any, steps_err, steps_last, steps_ok, way_more, way_one, way_start}
use Rattle.match_search.proofs.following.follow.Goals as goal

pub returns-in_err-conflict-clause-steps : goal.returns-in_err-conflict-clause-steps
returns-in_err-conflict-clause-steps g c = steps_err c.from_residual.ensures.1 (way_start c.requires.may) c.in_err-conflict.ensures.steps

pub returns-in-Some-clause-steps : goal.returns-in-Some-clause-steps
returns-in-Some-clause-steps g c = steps_ok (way_one c.in_ok-conflict.ensures.steps)

pub returns-then-has_had_its_share-clause-steps : goal.returns-then-has_had_its_share-clause-steps
returns-then-has_had_its_share-clause-steps g c = steps_ok (way_one c.in_ok-conflict.ensures.steps)

pub compare_by_swaps-requires : goal.compare_by_swaps-requires
compare_by_swaps-requires g c = record { may = may_go_on c.requires.may.may (way_one c.in_ok-conflict.ensures.steps) }

pub returns-in_err-excluded-clause-steps : goal.returns-in_err-excluded-clause-steps
returns-in_err-excluded-clause-steps g c = steps_err c.from_residual-in_err-excluded.ensures.1 (way_one c.in_ok-conflict.ensures.steps) c.in_err-excluded.ensures.steps

pub returns-in-Some-2-clause-steps : goal.returns-in-Some-2-clause-steps
returns-in-Some-2-clause-steps g c = steps_ok (way_more (way_one c.in_ok-conflict.ensures.steps) c.in_ok-excluded.ensures.steps)

pub try_assigned-requires : goal.try_assigned-requires
try_assigned-requires g c = record { may = may_go_on c.requires.may.may (way_more (way_one c.in_ok-conflict.ensures.steps) c.in_ok-excluded.ensures.steps) }

pub returns-clause-steps : goal.returns-clause-steps
returns-clause-steps g c = steps_last (way_more (way_one c.in_ok-conflict.ensures.steps) c.in_ok-excluded.ensures.steps) c.try_assigned.ensures.steps

pub returns-clause-less : goal.returns-clause-less
returns-clause-less g c = on_any _ c.try_assigned.result c.in_ok-conflict.ensures.less
