use Rattle.std.proofs.Common.{sym, subst}
use Rattle.account_core.specs.Assigned.{AreAssignable}
use Rattle.pair_search.proofs.PivotLemmas.{assigned_known}
use Rattle.match_search.proofs.StepLemmas.{may_go_on, steps_fail, steps_ok, way_bans, way_start}
use Rattle.match_search.proofs.following.compare_by_swaps.Goals as goal

pub loop-place-init : goal.loop-place-init
loop-place-init g c = way_start c.requires.may

pub exclude_by_swaps-requires-clause-may : goal.exclude_by_swaps-requires-clause-may
exclude_by_swaps-requires-clause-may g c = (may_go_on c.requires.may.may c.loop-place.invariant).may

pub exclude_by_swaps-requires-clause-known : goal.exclude_by_swaps-requires-clause-known
exclude_by_swaps-requires-clause-known g c =
    let d = c.args.domains.now in
    (subst (AreAssignable c.args.graphs.now) (sym c.pairs-assigned.ensures.value) (assigned_known c.args.graphs.now d.inputs d.outputs d.entries c.requires.may.trail.trail.fit c.entries-lawful.ensures.lawful)).known

pub returns-in_err-ban-clause-steps : goal.returns-in_err-ban-clause-steps
returns-in_err-ban-clause-steps g c = steps_fail c.from_residual.ensures.1 c.loop-place.invariant c.in_err-ban.ensures.goes_on

pub returns-in-Some-clause-steps : goal.returns-in-Some-clause-steps
returns-in-Some-clause-steps g c = steps_ok (way_bans c.loop-place.invariant c.in_ok-ban.ensures.goes_on)

pub loop-place-preserved : goal.loop-place-preserved
loop-place-preserved g c = way_bans c.loop-place.invariant c.in_ok-ban.ensures.goes_on

pub returns-clause-steps : goal.returns-clause-steps
returns-clause-steps g c = steps_ok c.loop-place.invariant
