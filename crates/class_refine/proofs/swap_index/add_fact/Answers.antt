use Rattle.std.proofs.Common.{map, sym, subst, ◌∙◌, arith}
use Rattle.std.proofs.lemmas.Bool.{false≢true}
use Rattle.std.proofs.lemmas.List.{length-map}
use Rattle.claim_core.specs.declared.claims.Claim.{Claim}
use Rattle.account_core.specs.Given.{decided_by}
use Rattle.class_refine.specs.Stable.{HasTwoInputs}
use Rattle.class_refine.proofs.SwapIndexLemmas.{index_kept, index_more}
use Rattle.class_refine.proofs.swap_index.add_fact.Goals as goal

pub returns-then-not-has_two_inputs : goal.returns-then-not-has_two_inputs
returns-then-not-has_two_inputs c =
    let facts = map decided_by c.args.facts.now in
    let number = c.args.number in
    index_kept facts number _ (λ two. false≢true (sym c.if-not-has_two_inputs.true ∙ c.has_two_inputs.ensures.1 (subst (λ (claim : Claim). HasTwoInputs claim.shape) (sym c.claim_at-claim.ensures) two))) c.requires.index

pub returns : goal.returns
returns c =
    let facts = map decided_by c.args.facts.now in
    index_more facts c.args.number c.claim_at-claim.result c.args.swaps.now.entries c.put.new.swaps.entries c.in_ok-put.ensures (omega (arith, c.requires.below, length-map c.args.facts.now decided_by)) c.claim_at-claim.ensures c.requires.index
