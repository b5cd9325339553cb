use Rattle.match_search.specs.States.{lent}
use Rattle.match_search.proofs.AskLemmas.{ahead_later}
use Rattle.match_search.proofs.StepLemmas.{may_go_on, steps_err, steps_last, steps_ok, way_one, way_start}
use Rattle.match_search.proofs.branching.ahead.Goals as goal

pub returns-in_err-conflict-clause-steps : goal.returns-in_err-conflict-clause-steps
returns-in_err-conflict-clause-steps g c = steps_err c.from_residual.ensures.1 (way_start c.requires.may) c.in_err-conflict.ensures.steps

pub returns-in-Some-clause-steps : goal.returns-in-Some-clause-steps
returns-in-Some-clause-steps g c = steps_ok (way_one c.in_ok-conflict.ensures.steps)

pub returns-in-Some-clause-ahead : goal.returns-in-Some-clause-ahead
returns-in-Some-clause-ahead g c = record {
  conflict_is = rw c.in-Some.is at c.in_ok-conflict.ensures.conflict;
  less = c.in_ok-conflict.ensures.less;
}

pub go_on-requires : goal.go_on-requires
go_on-requires g c = record { may = may_go_on c.requires.may.may (way_one c.in_ok-conflict.ensures.steps) }

pub returns-clause-steps : goal.returns-clause-steps
returns-clause-steps g c = steps_last (way_one c.in_ok-conflict.ensures.steps) c.go_on.ensures.steps

pub returns-clause-ahead : goal.returns-clause-ahead
returns-clause-ahead g c =
    ahead_later c.args.graphs.now (lent g.O.Oracle.known c.go_on.new.session) c.args.trail.now.domains c.follow.new.trail.domains c.go_on.new.domains c.go_on.result c.in_ok-conflict.ensures.less c.go_on.ensures.ahead
