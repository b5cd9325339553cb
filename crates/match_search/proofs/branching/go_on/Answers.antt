use Rattle.std.proofs.Common.{refl, ap, arith}
use Rattle.pair_search.specs.Progress.{left}
use Rattle.match_search.proofs.StepLemmas.{steps_ok, steps_stop, way_start, way_stays}
use Rattle.match_search.proofs.branching.go_on.Goals as goal

pub compare_assigned-requires-clause-whole : goal.compare_assigned-requires-clause-whole
compare_assigned-requires-clause-whole g c = (rw c.in_default.is at c.in_ok-port.ensures.none) c.args.graphs.now c.requires.may.trail.trail.fit

pub returns-in_err-port-clause-steps : goal.returns-in_err-port-clause-steps
returns-in_err-port-clause-steps g c = steps_stop c.from_residual.ensures.1 (way_start c.requires.may)

pub returns-in_err-branch-clause-steps : goal.returns-in_err-branch-clause-steps
returns-in_err-branch-clause-steps g c = steps_stop c.from_residual-in_err-branch.ensures.1 (way_start c.requires.may)

pub returns-in-None-clause-steps : goal.returns-in-None-clause-steps
returns-in-None-clause-steps g c = steps_ok (way_stays refl (way_start c.requires.may) (c.in_ok-branch.ensures.stays _ c.requires.may.trail.trail.justified))

pub returns-in-Some-2-clause-steps : goal.returns-in-Some-2-clause-steps
returns-in-Some-2-clause-steps g c = steps_ok (way_stays refl (way_start c.requires.may) (c.in_ok-branch.ensures.stays _ c.requires.may.trail.trail.justified))

pub returns-in-Some-2-clause-ahead : goal.returns-in-Some-2-clause-ahead
returns-in-Some-2-clause-ahead g c = record {
  conflict_is = (rw c.in-Some-2.is at c.in_ok-branch.ensures.conflict) c.args.session.now.book.now;
  less = omega (arith, ap left (rw c.in-Some-2.is at c.in_ok-branch.ensures.stuck));
}
