-- The falls among the changed vectors with the shape's values break the shape.
use Rattle.std.proofs.Common.{◌≡◌, ◌↔◌, ◌∙◌, true, subst, sym}
use Rattle.claim_core.specs.Claims.{HasValues}
use Rattle.sim_signature.specs.Changes.{changed}
use Rattle.sim_signature.specs.Blocks.{block_bit, pattern}
use Rattle.sim_signature.specs.Signatures.{Signed}
use Rattle.sim_signature.proofs.Evaluating.{length-pattern}
use Rattle.sim_signature.proofs.Signing.{breaking}
use Rattle.sim_signature.proofs.signatures.Signatures.breaking.Goals as goal

pub returns : goal.returns
returns c w v h l =
    let s : Signed = c.args.self.now in
    let from = c.args.from in
    let x = pattern s.blocks w v in
    let falls = block_bit w v c.picked-falls.result in
    let one = c.block-one.ensures.bits w v h l in
    let other = c.block-other.ensures.bits w v h l in
    let len = length-pattern s.blocks w v ∙ c.block-one.ensures.inputs in
    let valued = subst (λ (s : Signed). (block_bit w v c.having.result ≡ true) ↔ ((falls ≡ true) × HasValues c.args.shape (changed from (pattern s.blocks w v)))) c.self.view_is (subst (λ blocks. (block_bit w v c.having.result ≡ true) ↔ ((falls ≡ true) × HasValues c.args.shape (changed from (pattern blocks w v)))) c.deref.ensures.value (c.having.ensures w v h l)) in
    breaking s c.args.output c.args.shape from c.args.to x (block_bit w v c.having.result) falls len c.requires.ends (rw (sym one, sym other) (c.picked-falls.ensures w v h l)) valued
