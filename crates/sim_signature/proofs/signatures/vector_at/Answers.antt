-- One bit more is that of its block, changed.
use Rattle.std.proofs.Common.{◌<◌, ◌≡◌, ◌∷◌, ◌++◌, [], false, length, take, ap, sym, subst, ◌∙◌, arith}
use Rattle.std.proofs.lemmas.List.{take_more}
use Rattle.circuits.specs.Literals.{bit, differ}
use Rattle.sim_signature.specs.Changes.{IsChange, changed}
use Rattle.sim_signature.specs.Blocks.{pattern}
use Rattle.sim_signature.proofs.Evaluating.{length-pattern, pattern-bit}
use Rattle.sim_signature.proofs.Inverting.{changed-bit, length-changed}
use Rattle.sim_signature.proofs.signatures.vector_at.Goals as goal

pub loop-i-preserved : goal.loop-i-preserved
loop-i-preserved c =
    let inputs = c.args.inputs.now in
    let change = c.args.change in
    let word = c.args.word in
    let lane = c.args.lane in
    let i = c.loop-i.i in
    let x = pattern inputs word lane in
    let y = changed change x in
    let there : i < length inputs = omega (arith, c.loop-i-test.true) in
    let here : i < length y = omega (arith, there, length-changed change x, length-pattern inputs word lane) in
    let placed = subst (λ n. IsChange n change) (sym (length-pattern inputs word lane)) c.requires.change in
    let inverse = c.is_inverted.result in
    let pushed : differ c.bit_at.result inverse ≡ bit y i = ap (λ b. differ b inverse) (c.bit_at.ensures ∙ pattern-bit inputs word lane i) ∙ (ap (differ (bit x i)) c.is_inverted.ensures ∙ sym (changed-bit change x i placed)) in
    c.in_ok-push.ensures.pushed ∙ (ap (λ front. front ++ differ c.bit_at.result inverse ∷ []) c.loop-i.invariant ∙ (ap (λ b. take i y ++ b ∷ []) pushed ∙ sym (take_more y i false here)))
