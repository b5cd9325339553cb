use Rattle.match_search.proofs.StepLemmas.{may_go_on, steps_err, steps_last, steps_ok, way_one, way_start}
use Rattle.match_search.proofs.branching.compare_assigned.Goals as goal

pub returns-in_err-matching-clause-steps : goal.returns-in_err-matching-clause-steps
returns-in_err-matching-clause-steps g c = steps_err c.from_residual.ensures.1 (way_start c.requires.may) c.in_err-matching.ensures.steps

pub confirm-requires-clause-may : goal.confirm-requires-clause-may
confirm-requires-clause-may g c = may_go_on c.requires.may.may (way_one c.in_ok-matching.ensures.steps)

pub returns-in-Match-clause-steps : goal.returns-in-Match-clause-steps
returns-in-Match-clause-steps g c = steps_last (way_one c.in_ok-matching.ensures.steps) c.confirm.ensures.steps

pub returns-in-Ban-clause-steps : goal.returns-in-Ban-clause-steps
returns-in-Ban-clause-steps g c = steps_ok (way_one c.in_ok-matching.ensures.steps)
