-- The block stands in the change's column.
use Rattle.std.proofs.Common.{◌≡◌, ◌+◌, ◌-◌, subst, sym, arith}
use Rattle.claim_core.specs.Claims.{output_bit}
use Rattle.sim_signature.specs.Changes.{IsChange, changed}
use Rattle.sim_signature.specs.Blocks.{block_bit, pattern}
use Rattle.sim_signature.specs.Signatures.{Covers, IsBlock, IsColumn, Signed}
use Rattle.sim_signature.proofs.signatures.Signatures.block.Goals as goal

pub returns-clause-bits : goal.returns-clause-bits
returns-clause-bits c w v h l =
    let inside = c.self.inside in
    let s : Signed = record { net = inside.graph.now; first = inside.first; count = inside.count; blocks = inside.inputs.items } in
    let output = c.args.output in
    let change = c.args.change in
    let column = c.index.result.now in
    let block = c.index-2.result.now in
    let k = output - s.first in
    let fit = subst (λ (t : Signed). IsChange t.net.inputs change) (sym c.self.view_is) c.requires.change in
    let covers = subst (λ (t : Signed). Covers t output) (sym c.self.view_is) c.requires.covers in
    let told : IsColumn s change column = subst (IsColumn s change) (sym c.index.ensures) (rw c.place_of.ensures (c.self.invariant.all.each change column fit)) in
    let bits : IsBlock s change k block = subst (IsBlock s change k) (sym c.index-2.ensures) (told.bits k block (omega (arith, covers.0, covers.1, told.count))) in
    let whole : s.first + k ≡ output = omega (arith, covers.0) in
    subst (λ (t : Signed). block_bit w v block ≡ output_bit t.net output (changed change (pattern t.blocks w v))) c.self.view_is (subst (λ o. block_bit w v block ≡ output_bit s.net o (changed change (pattern s.blocks w v))) whole (bits w v h l))
