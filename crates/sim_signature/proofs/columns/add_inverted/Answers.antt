-- One input more has its column.
use Rattle.std.proofs.Common.{ap, subst, sym, ◌∙◌}
use Rattle.sim_signature.specs.declared.change.Change.{Change}
use Rattle.sim_signature.specs.Signatures.{AreColumns, IsColumn, Signed}
use Rattle.sim_signature.specs.Simulations.{Simulated}
use Rattle.sim_signature.proofs.Signing.{AreColumns-more}
use Rattle.sim_signature.proofs.columns.add_inverted.Goals as goal

pub loop-input-preserved : goal.loop-input-preserved
loop-input-preserved c =
    let now : Simulated = c.invert.new.self in
    let input = c.loop-input.input in
    let columns = c.loop-input.columns.items in
    let column = c.in_ok-column.field-0 in
    let inv = c.loop-input.invariant in
    let of : Simulated → Signed = λ t. record { net = t.net; first = c.args.first; count = c.args.count; blocks = t.blocks } in
    let before = subst (λ (t : Simulated). AreColumns (of t) input columns) (sym c.invert.ensures) inv.2 in
    let here = subst (λ (change : Change). IsColumn (of now) change column) (ap (λ (t : Simulated). t.change) c.invert.ensures) c.in_ok-column.ensures in (
      ap (λ (t : Simulated). t.net) c.invert.ensures ∙ inv.0,
      ap (λ (t : Simulated). t.blocks) c.invert.ensures ∙ inv.1,
      rw c.in_ok-push.ensures.items (AreColumns-more (of now) input columns column before here),
    )
