-- Two facts more are read.
use Rattle.std.proofs.Common.{◌+◌, ◌↔◌, get_or, sym, ap, subst, ◌∙◌}
use Rattle.claim_core.specs.declared.claims.Claim.{Claim}
use Rattle.account_core.specs.Given.{fact_at}
use Rattle.account_core.specs.Tallies.{shapes_of}
use Rattle.ban_check.specs.Counted.{twin_input, GoOverTwice, IsNext}
use Rattle.ban_check.proofs.BoolLemmas.{refused}
use Rattle.ban_check.proofs.CountLemmas.{after_two, front_step, front_stop, twos_end, twos_next}
use Rattle.ban_check.proofs.tallies.go_over_twice.Goals as goal

pub returns-in_default-next_from : goal.returns-in_default-next_from
returns-in_default-next_from c =
    let front = twos_next c.args.given.now c.loop-left.left.now c.loop-left.least c.in-len2-up.len_at_least in
    let one = (fact_at c.args.given.now (get_or c.loop-left.left.now 0 0)).claim.shape in
    let told = c.twin_input.ensures ∙ (ap (λ (claim : Claim). twin_input claim.shape c.fact-in-len2-up.result.claim.shape) c.fact.ensures.claim ∙ ap (λ (claim : Claim). twin_input one claim.shape) c.fact-in-len2-up.ensures.claim) in
    refused _ (front_stop _ front c.loop-left.invariant (λ i e within. c.in_default-next_from.not-Some (i + 1) (c.next_from.ensures.there i (told ∙ e) within)))

pub loop-left-preserved : goal.loop-left-preserved
loop-left-preserved c =
    let front = twos_next c.args.given.now c.loop-left.left.now c.loop-left.least c.in-len2-up.len_at_least in
    let one = (fact_at c.args.given.now (get_or c.loop-left.left.now 0 0)).claim.shape in
    let told = c.twin_input.ensures ∙ (ap (λ (claim : Claim). twin_input claim.shape c.fact-in-len2-up.result.claim.shape) c.fact.ensures.claim ∙ ap (λ (claim : Claim). twin_input one claim.shape) c.fact-in-len2-up.ensures.claim) in
    let step = front_step _ front c.loop-left.invariant c.in-Some.next (subst (λ o. IsNext c.loop-left.least o c.in-Some.next) told (rw c.in-Some.is at c.next_from.ensures.next)) in
    subst (λ l. GoOverTwice c.in-Some.next (shapes_of c.args.given.now l) ↔ GoOverTwice 0 (shapes_of c.args.given.now c.args.numbers.now)) (sym (after_two c.loop-left.left.now)) step

pub returns : goal.returns
returns c = twos_end (GoOverTwice 0 (shapes_of c.args.given.now c.args.numbers.now)) c.args.given.now c.loop-left.least c.loop-left.left.now c.is_empty.result c.in_default.len_below c.is_empty.ensures c.loop-left.invariant
