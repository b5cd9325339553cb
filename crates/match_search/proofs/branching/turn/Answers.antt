use Rattle.std.proofs.Common.{arith}
use Rattle.match_search.proofs.StepLemmas.{steps_err, steps_ok, steps_unlearned, way_back, way_one, way_start}
use Rattle.match_search.proofs.branching.turn.Goals as goal

pub returns-in_err-ahead-clause-steps : goal.returns-in_err-ahead-clause-steps
returns-in_err-ahead-clause-steps g c = steps_err c.from_residual.ensures.1 (way_start c.requires.may) c.in_err-ahead.ensures.steps

pub returns-in-Deeper-clause-steps : goal.returns-in-Deeper-clause-steps
returns-in-Deeper-clause-steps g c = steps_ok (way_one c.in_ok-ahead.ensures.steps)

pub returns-in-Deeper-clause-less : goal.returns-in-Deeper-clause-less
returns-in-Deeper-clause-less g c = rw c.in-Deeper.is at c.in_ok-ahead.ensures.ahead

pub returns-in-Match-clause-steps : goal.returns-in-Match-clause-steps
returns-in-Match-clause-steps g c = steps_ok (way_one c.in_ok-ahead.ensures.steps)

pub turn_back-requires-clause-conflict : goal.turn_back-requires-clause-conflict
turn_back-requires-clause-conflict g c = (rw c.in-Conflict.is at c.in_ok-ahead.ensures.ahead).conflict_is

pub turn_back-requires-clause-trail : goal.turn_back-requires-clause-trail
turn_back-requires-clause-trail g c = c.in_ok-ahead.ensures.steps.trail.trail

pub returns-in_err-refusal-clause-steps : goal.returns-in_err-refusal-clause-steps
returns-in_err-refusal-clause-steps g c = steps_unlearned c.from_residual-in_err-refusal.ensures.1 (way_one c.in_ok-ahead.ensures.steps) c.in_err-refusal.ensures.more

pub returns-in-None-clause-steps : goal.returns-in-None-clause-steps
returns-in-None-clause-steps g c =
    steps_ok (way_back (way_one c.in_ok-ahead.ensures.steps) c.in_ok-refusal.ensures.more c.in_ok-refusal.ensures.trail c.in_ok-refusal.ensures.grounded)

pub returns-in-None-clause-less : goal.returns-in-None-clause-less
returns-in-None-clause-less g c =
    omega (arith, (rw c.in-Conflict.is at c.in_ok-ahead.ensures.ahead).less, rw c.in-None.is at c.in_ok-refusal.ensures.less)

pub returns-in-Some-clause-steps : goal.returns-in-Some-clause-steps
returns-in-Some-clause-steps g c =
    steps_ok (way_back (way_one c.in_ok-ahead.ensures.steps) c.in_ok-refusal.ensures.more c.in_ok-refusal.ensures.trail c.in_ok-refusal.ensures.grounded)
