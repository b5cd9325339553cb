use Rattle.std.proofs.Common.{List, [], ◌∷◌, ◌++◌, map, ap, ◌∙◌, sym}
use Rattle.claim_core.specs.declared.claims.Claim.{Claim}
use Rattle.claim_core.specs.contracts.claims.ClaimPartialEq.TheImpl.{eq-value as claim_eq}
use Rattle.indexmap.specs.IndexSet.{insert_key}
use Rattle.fact_tests.proofs.NumberLemmas.{added}
use Rattle.claim_core.proofs.EqualLemmas.{claim_decides}
use Rattle.account_core.specs.declared.fact.Fact.{Fact}
use Rattle.fact_tests.proofs.facts.FactList.add.Goals as goal

pub invariant_of-self-2 : goal.invariant_of-self-2
invariant_of-self-2 c =
    let key : Fact → Claim = λ (f : Fact). f.claim in
    let keys = c.self.invariant ∙ ap (map key) c.self.view_is in
    let items = c.push_reserved.ensures.items ∙ ap (λ (fs : List Fact). fs ++ c.args.fact ∷ []) (c.in_ok-reserve.ensures.items ∙ c.self.view_is) in
    c.in_ok-insert.ensures.keys
    ∙ (ap (λ (ks : List Claim). insert_key claim_eq.it ks c.args.fact.claim) keys ∙ (added claim_eq.it claim_decides key c.args.self.now c.args.fact c.requires ∙ ap (map key) (sym items)))
