use Rattle.std.proofs.Common.{◌≡◌, ◌&&◌, true, subst}
use Rattle.std.proofs.lemmas.Bool.{false≢true}
use Rattle.match_search.proofs.StepLemmas.{may_go_on, steps_err, steps_ok, way_more, way_start}
use Rattle.match_search.proofs.branching.explore_round.Goals as goal

pub loop-session-init : goal.loop-session-init
loop-session-init g c = way_start c.requires.may

pub turn-requires : goal.turn-requires
turn-requires g c = record { may = may_go_on c.requires.may.may c.loop-session.invariant }

pub returns-in_err-found-clause-steps : goal.returns-in_err-found-clause-steps
returns-in_err-found-clause-steps g c = steps_err c.from_residual.ensures.1 c.loop-session.invariant c.in_err-found.ensures.steps

pub returns-in-Some-clause-steps : goal.returns-in-Some-clause-steps
returns-in-Some-clause-steps g c = steps_ok (way_more c.loop-session.invariant c.in_ok-found.ensures.steps)

pub loop-session-preserved : goal.loop-session-preserved
loop-session-preserved g c = way_more c.loop-session.invariant c.in_ok-found.ensures.steps

pub returns-clause-steps : goal.returns-clause-steps
returns-clause-steps g c = steps_ok c.loop-session.invariant

pub returns-clause-ends : goal.returns-clause-ends
returns-clause-ends g c = λ on. false≢true (subst (λ b. (b && c.is_round_over.result) ≡ true) on c.loop-session-test.false)
