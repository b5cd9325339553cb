use Rattle.std.proofs.Common.{◌≡◌, ◌+◌, sym, ◌∙◌, inl, inr, arith}
use Rattle.pair_domains.specs.Trails.{IsPairOf}
use Rattle.class_refine.proofs.SettleLemmas.{IsWayBefore, settles_dead, settles_err, settles_ok, way_below, way_more, way_then}
use Rattle.class_refine.proofs.TrailLemmas.{to_below}
use Rattle.class_refine.proofs.settling.settle_port.Goals as goal

pub returns-in_err-dead : goal.returns-in_err-dead
returns-in_err-dead c =
    settles_err _ _ _ _ _ _ _ _ (λ pair. pair ≡ c.way_of-way.result) _ c.loop-number.invariant c.from_residual.result c.from_residual.ensures.0 c.in_err-dead.ensures.refines

pub returns-in-Some : goal.returns-in-Some
returns-in-Some c =
    settles_dead _ _ _ _ _ _ _ _ (λ pair. pair ≡ c.way_of-way.result) _ c.loop-number.invariant c.in-Some.dead (rw c.in-Some.is at c.in_ok-dead.ensures)

pub loop-number-preserved : goal.loop-number-preserved
loop-number-preserved c =
    let number = c.loop-number.number in
    way_then _ _ _ _ _ _ _ _ (λ pair. pair ≡ c.way_of-way.result) (IsWayBefore c.args.kind c.args.from (number + 1)) c.loop-number.invariant (rw c.in_default.is at c.in_ok-dead.ensures) (λ pair is.
    elim (way_more c.args.kind c.args.from number pair is) [
      | inl before ↦ inl before
      | inr here ↦ inr (here ∙ sym c.way_of-way.ensures.value)
    ])

pub returns : goal.returns
returns c =
    let d = c.args.domains.now in
    settles_ok _ _ _ _ _ _ (λ pair. (pair.kind ≡ c.args.kind) × (pair.from ≡ c.args.from) × IsPairOf d.inputs d.outputs pair) c.loop-number.invariant (λ pair is. (is.0, is.1, omega (arith, way_below pair _ (to_below d.inputs d.outputs c.args.kind pair is.0 is.2), c.loop-number-test.false, c.ports-count.ensures)))
