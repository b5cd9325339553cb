use Rattle.match_search.proofs.StepLemmas.{may_go_on, steps_err, steps_ok, way_more, way_start}
use Rattle.match_search.proofs.table_refusal.take_turns.Goals as goal

pub loop-turn-init : goal.loop-turn-init
loop-turn-init g c = way_start c.requires.may

pub turn-requires : goal.turn-requires
turn-requires g c = record { may = may_go_on c.requires.may.may c.loop-turn.invariant }

pub returns-in_err-turn-clause-steps : goal.returns-in_err-turn-clause-steps
returns-in_err-turn-clause-steps g c = steps_err c.from_residual.ensures.1 c.loop-turn.invariant c.in_err-turn.ensures.steps

pub returns-in-Over-clause-steps : goal.returns-in-Over-clause-steps
returns-in-Over-clause-steps g c = steps_ok (way_more c.loop-turn.invariant c.in_ok-turn.ensures.steps)

pub returns-in-Refusal-clause-steps : goal.returns-in-Refusal-clause-steps
returns-in-Refusal-clause-steps g c = steps_ok (way_more c.loop-turn.invariant c.in_ok-turn.ensures.steps)

pub loop-turn-preserved : goal.loop-turn-preserved
loop-turn-preserved g c = way_more c.loop-turn.invariant c.in_ok-turn.ensures.steps

pub returns-clause-steps : goal.returns-clause-steps
returns-clause-steps g c = steps_ok c.loop-turn.invariant
