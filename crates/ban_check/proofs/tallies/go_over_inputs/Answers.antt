-- One fact more is read.
use Rattle.std.proofs.Common.{◌+◌, ap, subst, ◌∙◌}
use Rattle.claim_core.specs.declared.claims.Claim.{Claim}
use Rattle.ban_check.specs.Counted.{one_input, IsNext}
use Rattle.ban_check.proofs.BoolLemmas.{refused}
use Rattle.ban_check.proofs.CountLemmas.{front_step, front_stop, inputs_next}
use Rattle.ban_check.proofs.tallies.go_over_inputs.Goals as goal

pub returns-in_default : goal.returns-in_default
returns-in_default c =
    let front = inputs_next c.args.given.now c.args.numbers.now c.loop-number.number-index c.loop-number.least c.loop-number-test.true in
    let told = c.one_input.ensures ∙ ap (λ (claim : Claim). one_input claim.shape) c.fact.ensures.claim in
    refused _ (front_stop _ front c.loop-number.invariant (λ i e within. c.in_default.not-Some (i + 1) (c.next_from.ensures.there i (told ∙ e) within)))

pub loop-number-preserved : goal.loop-number-preserved
loop-number-preserved c =
    let front = inputs_next c.args.given.now c.args.numbers.now c.loop-number.number-index c.loop-number.least c.loop-number-test.true in
    let told = c.one_input.ensures ∙ ap (λ (claim : Claim). one_input claim.shape) c.fact.ensures.claim in
    front_step _ front c.loop-number.invariant c.in-Some.next (subst (λ o. IsNext c.loop-number.least o c.in-Some.next) told (rw c.in-Some.is at c.next_from.ensures.next))
