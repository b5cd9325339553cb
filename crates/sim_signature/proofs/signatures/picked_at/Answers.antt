-- An input's bit on a changed vector is that of its block, with the change.
use Rattle.std.proofs.Common.{◌≡◌, [], ap, subst, sym, ◌∙◌, get_or}
use Rattle.circuits.specs.Literals.{bit, differ}
use Rattle.sim_signature.specs.Changes.{IsChange, changed, is_inverted}
use Rattle.sim_signature.specs.Blocks.{block_bit, pattern}
use Rattle.sim_signature.proofs.Evaluating.{length-pattern, pattern-bit}
use Rattle.sim_signature.proofs.Inverting.{changed-bit}
use Rattle.sim_signature.proofs.Picking.{value-after, value-before}
use Rattle.sim_signature.proofs.signatures.picked_at.Goals as goal

pub returns : goal.returns
returns c w v h l =
    let inputs = c.args.inputs.now in
    let input = c.args.input in
    let change = c.args.change in
    let value = c.args.value in
    let x = pattern inputs w v in
    let inverse = is_inverted change input in
    let at : block_bit w v (get_or inputs input []) ≡ bit x input = pattern-bit inputs w v input in
    let said : bit (changed change x) input ≡ differ (bit x input) inverse = changed-bit change x input (subst (λ n. IsChange n change) (sym (length-pattern inputs w v)) c.requires.change) in
    let signed : differ value c.is_inverted.result ≡ differ value inverse = ap (differ value) c.is_inverted.ensures in
    let picked = c.picked.ensures w v h l in (
      λ found. let both = picked.0 found in (both.0, said ∙ value-after (bit x input) value inverse (sym at ∙ (both.1 ∙ signed))),
      λ both. picked.1 (both.0, at ∙ (value-before (bit x input) value inverse (sym said ∙ both.1) ∙ sym signed)),
    )
