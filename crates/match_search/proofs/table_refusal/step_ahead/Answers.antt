use Rattle.std.proofs.Common.{refl}
use Rattle.match_search.proofs.StepLemmas.{steps_fail, steps_ok, steps_stop, way_bans, way_start, way_stays}
use Rattle.match_search.proofs.table_refusal.step_ahead.Goals as goal

pub returns-in_err-exclusion-clause-steps : goal.returns-in_err-exclusion-clause-steps
returns-in_err-exclusion-clause-steps g c = steps_stop c.from_residual.ensures.1 (way_start c.requires.may)

pub returns-in_err-next-clause-steps : goal.returns-in_err-next-clause-steps
returns-in_err-next-clause-steps g c = steps_stop c.from_residual-in_err-next.ensures.1 (way_start c.requires.may)

pub returns-in_default : goal.returns-in_default
returns-in_default g c = record {
  steps = steps_ok (way_stays refl (way_start c.requires.may) (c.in_ok-next.ensures.stays _ c.requires.may.trail.trail.justified));
  ahead = c.in_ok-next.ensures.ahead c.args.session.now.book.now;
}

pub returns-in_err-ban-clause-steps : goal.returns-in_err-ban-clause-steps
returns-in_err-ban-clause-steps g c = steps_fail c.from_residual-in_err-ban.ensures.1 (way_start c.requires.may) c.in_err-ban.ensures.goes_on

pub returns-in-Some-2 : goal.returns-in-Some-2
returns-in-Some-2 g c = record {
  steps = steps_ok (way_bans (way_start c.requires.may) c.in_ok-ban.ensures.goes_on);
  ahead = rw c.in-Some-2.is at c.in_ok-ban.ensures.covers;
}

pub returns-clause-steps : goal.returns-clause-steps
returns-clause-steps g c = steps_ok (way_bans (way_start c.requires.may) c.in_ok-ban.ensures.goes_on)
