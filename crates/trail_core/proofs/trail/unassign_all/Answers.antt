-- One literal more has no value.
use Rattle.std.proofs.Common.{◌+◌, Bool, List, Option, refl, sym, subst, arith}
use Rattle.trail_core.specs.Places.{AreUnassigned}
use Rattle.trail_core.specs.Trails.{entry_at, nothing}
use Rattle.trail_core.proofs.ValueLemmas.{unassigned_more}
use Rattle.trail_core.proofs.trail.unassign_all.Goals as goal

pub loop-entry-preserved : goal.loop-entry-preserved
loop-entry-preserved c =
    let l = c.loop-entry in
    let old = c.args.values.now in
    let dropped = c.args.dropped.now in
    let known = c.requires l.entry-index nothing c.loop-entry-test.true in
    subst (λ (vs : List (Option Bool)). AreUnassigned old vs dropped (l.entry-index + 1)) (sym c.unassign.ensures) (unassigned_more old l.values dropped l.entry-index (entry_at dropped l.entry-index) refl (omega (arith, known, l.invariant.same_length)) l.invariant)
