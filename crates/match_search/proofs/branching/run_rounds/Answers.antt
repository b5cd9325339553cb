-- One round after the other, with the bans that are kept.
use Rattle.std.proofs.Common.{refl}
use Rattle.match_search.proofs.StepLemmas.{may_go_on, steps_err, steps_ok, way_more, way_start, way_stays}
use Rattle.match_search.proofs.branching.run_rounds.Goals as goal

pub loop-round-init : goal.loop-round-init
loop-round-init g c = way_start c.requires.may

pub explore_round-requires : goal.explore_round-requires
explore_round-requires g c = record { may = may_go_on c.requires.may.may c.loop-round.invariant }

pub returns-in_err-found-clause-steps : goal.returns-in_err-found-clause-steps
returns-in_err-found-clause-steps g c = steps_err c.from_residual.ensures.1 c.loop-round.invariant c.in_err-found.ensures.steps

pub returns-in-Some-clause-steps : goal.returns-in-Some-clause-steps
returns-in-Some-clause-steps g c = steps_ok (way_more c.loop-round.invariant c.in_ok-found.ensures.steps)

pub returns-then-is_full-clause-steps : goal.returns-then-is_full-clause-steps
returns-then-is_full-clause-steps g c = steps_ok (way_more c.loop-round.invariant c.in_ok-found.ensures.steps)

pub loop-round-preserved : goal.loop-round-preserved
loop-round-preserved g c =
    way_stays refl (way_more c.loop-round.invariant c.in_ok-found.ensures.steps) (c.start_over.ensures.stays _ c.in_ok-found.ensures.steps.trail.trail.justified)

pub returns-clause-steps : goal.returns-clause-steps
returns-clause-steps g c = steps_ok c.loop-round.invariant
