use Rattle.std.proofs.Common.{◌≡◌, inl, inr}
use Rattle.circuits.specs.declared.port.Pair.{Pair}
use Rattle.circuits.specs.declared.port.PortKind.TheVariants.{Input, Output}
use Rattle.pair_domains.specs.Trails.{IsPairOf}
use Rattle.class_refine.proofs.SettleLemmas.{either_kind, settles_last, under_way}
use Rattle.class_refine.proofs.TrailLemmas.{pair_of_later}
use Rattle.class_refine.proofs.settling.settle_all.Goals as goal

pub returns : goal.returns
returns c =
    let g = c.args.grounds.now in
    let d = c.args.domains.now in
    let mid = c.settle_kind.new.domains in
    let outputs : Pair → Type 0 = λ pair. (pair.kind ≡ Output) × IsPairOf d.inputs d.outputs pair in
    let first = under_way g c.args.book.now c.settle_kind.new.book d mid outputs (rw c.in_default.is at c.in_ok-dead.ensures) in
    settles_last g c.args.book.now c.settle_kind.new.book c.settle_kind-2.new.book d mid c.settle_kind-2.new.domains outputs (λ pair. (pair.kind ≡ Input) × IsPairOf mid.inputs mid.outputs pair) (λ pair. IsPairOf d.inputs d.outputs pair) first c.settle_kind-2.result c.settle_kind-2.ensures (λ pair known.
    elim (either_kind pair) [
      | inl output ↦ inl (output, known)
      | inr input ↦ inr (input, pair_of_later d mid pair first.refines.deletes known)
    ])
