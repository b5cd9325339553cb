use Rattle.std.proofs.Common.{◌≡◌, ◌+◌, inl, inr}
use Rattle.pair_domains.specs.Trails.{IsPairOf}
use Rattle.class_refine.proofs.SettleLemmas.{IsFromBefore, from_more, settles_dead, settles_err, way_then}
use Rattle.class_refine.proofs.TrailLemmas.{pair_of_later}
use Rattle.class_refine.proofs.settling.settle_kind.Goals as goal

pub returns-in_err-dead : goal.returns-in_err-dead
returns-in_err-dead c =
    settles_err _ _ _ _ _ _ _ _ (λ pair. ⊥) _ c.loop-from.invariant c.from_residual.result c.from_residual.ensures.0 c.in_err-dead.ensures.refines

pub returns-in-Some : goal.returns-in-Some
returns-in-Some c =
    let now = c.loop-from.domains in
    settles_dead _ _ _ _ _ _ _ _ (λ pair. (pair.kind ≡ c.args.kind) × (pair.from ≡ c.loop-from.from) × IsPairOf now.inputs now.outputs pair) _ c.loop-from.invariant c.in-Some.dead (rw c.in-Some.is at c.in_ok-dead.ensures)

pub loop-from-preserved : goal.loop-from-preserved
loop-from-preserved c =
    let d = c.args.domains.now in
    let now = c.loop-from.domains in
    way_then _ _ _ _ _ _ _ _ (λ pair. (pair.kind ≡ c.args.kind) × (pair.from ≡ c.loop-from.from) × IsPairOf now.inputs now.outputs pair) (IsFromBefore d.inputs d.outputs c.args.kind (c.loop-from.from + 1)) c.loop-from.invariant (rw c.in_default.is at c.in_ok-dead.ensures) (λ pair is.
    elim (from_more d.inputs d.outputs c.args.kind c.loop-from.from pair is) [
      | inl before ↦ inl before
      | inr here ↦ inr (here.0, here.1, pair_of_later d now pair c.loop-from.invariant.refines.deletes here.2)
    ])
