use Rattle.match_search.proofs.StepLemmas.{steps_err, steps_ok, steps_unlearned, way_back, way_one, way_start}
use Rattle.match_search.proofs.table_refusal.turn.Goals as goal

pub returns-in_err-step_ahead-clause-steps : goal.returns-in_err-step_ahead-clause-steps
returns-in_err-step_ahead-clause-steps g c = steps_err c.from_residual.ensures.1 (way_start c.requires.may) c.in_err-step_ahead.ensures.steps

pub returns-in-Advanced-clause-steps : goal.returns-in-Advanced-clause-steps
returns-in-Advanced-clause-steps g c = steps_ok (way_one c.in_ok-step_ahead.ensures.steps)

pub returns-in-NoPort-clause-steps : goal.returns-in-NoPort-clause-steps
returns-in-NoPort-clause-steps g c = steps_ok (way_one c.in_ok-step_ahead.ensures.steps)

pub step_back-requires-clause-conflict : goal.step_back-requires-clause-conflict
step_back-requires-clause-conflict g c = rw c.in-Conflict.is at c.in_ok-step_ahead.ensures.ahead

pub step_back-requires-clause-trail : goal.step_back-requires-clause-trail
step_back-requires-clause-trail g c = c.in_ok-step_ahead.ensures.steps.trail.trail

pub returns-in_err-refusal-clause-steps : goal.returns-in_err-refusal-clause-steps
returns-in_err-refusal-clause-steps g c = steps_unlearned c.from_residual-in_err-refusal.ensures.1 (way_one c.in_ok-step_ahead.ensures.steps) c.in_err-refusal.ensures.more

pub returns-in-None-clause-steps : goal.returns-in-None-clause-steps
returns-in-None-clause-steps g c =
    steps_ok (way_back (way_one c.in_ok-step_ahead.ensures.steps) c.in_ok-refusal.ensures.more c.in_ok-refusal.ensures.trail c.in_ok-refusal.ensures.grounded)

pub returns-in-Some-clause-steps : goal.returns-in-Some-clause-steps
returns-in-Some-clause-steps g c =
    steps_ok (way_back (way_one c.in_ok-step_ahead.ensures.steps) c.in_ok-refusal.ensures.more c.in_ok-refusal.ensures.trail c.in_ok-refusal.ensures.grounded)
