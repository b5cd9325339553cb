use Rattle.match_search.proofs.StepLemmas.{may_go_on, steps_err, steps_fail, steps_ok, way_bans, way_more, way_one, way_start}
use Rattle.match_search.proofs.following.ask_next.Goals as goal

pub ask_output-requires-clause-may : goal.ask_output-requires-clause-may
ask_output-requires-clause-may g c = c.requires.may.may

pub ask_output-requires-clause-fit : goal.ask_output-requires-clause-fit
ask_output-requires-clause-fit g c = c.requires.may.trail.trail.fit

pub returns-in_err-ask_output-clause-steps : goal.returns-in_err-ask_output-clause-steps
returns-in_err-ask_output-clause-steps g c = steps_fail c.from_residual.ensures.1 (way_start c.requires.may) c.in_err-ask_output.ensures

pub returns-in-Some-clause-steps : goal.returns-in-Some-clause-steps
returns-in-Some-clause-steps g c = steps_ok (way_bans (way_start c.requires.may) c.in_ok-ask_output.ensures)

pub returns-in_default-next_assigned-clause-steps : goal.returns-in_default-next_assigned-clause-steps
returns-in_default-next_assigned-clause-steps g c = steps_ok (way_start c.requires.may)

pub returns-in_err-more-clause-steps : goal.returns-in_err-more-clause-steps
returns-in_err-more-clause-steps g c = steps_err c.from_residual-in_err-more.ensures.1 (way_start c.requires.may) c.in_err-more.ensures.steps

pub returns-then-more-clause-steps : goal.returns-then-more-clause-steps
returns-then-more-clause-steps g c = steps_ok (way_one c.in_ok-more.ensures.steps)

pub delete_beside-requires : goal.delete_beside-requires
delete_beside-requires g c = record {
  may = may_go_on c.requires.may.may (way_one c.in_ok-more.ensures.steps);
  assigned = rw c.in-Some-next_assigned.is at c.next_assigned.ensures;
}

pub returns-in_err-delete_beside-clause-steps : goal.returns-in_err-delete_beside-clause-steps
returns-in_err-delete_beside-clause-steps g c = steps_err c.from_residual-in_err-delete_beside.ensures.1 (way_one c.in_ok-more.ensures.steps) c.in_err-delete_beside.ensures.steps

pub returns : goal.returns
returns g c = record {
  steps = steps_ok (way_more (way_one c.in_ok-more.ensures.steps) c.in_ok-delete_beside.ensures.steps);
  less = c.in_ok-delete_beside.ensures.deletes.less;
}
