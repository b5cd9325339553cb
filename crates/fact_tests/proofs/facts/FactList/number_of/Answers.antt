use Rattle.std.proofs.Common.{ℕ, Option, map, ap, ◌∙◌, sym, subst, All, ◌≢◌, position}
use Rattle.std.specs.List.{list_any}
use Rattle.std.specs.Option.{is_some, IfNone}
use Rattle.claim_core.specs.contracts.claims.ClaimPartialEq.TheImpl.{eq-value as claim_eq}
use Rattle.account_core.specs.declared.fact.Fact.{Fact}
use Rattle.fact_tests.proofs.NumberLemmas.{found, none}
use Rattle.claim_core.proofs.EqualLemmas.{claim_decides}
use Rattle.fact_tests.proofs.facts.FactList.number_of.Goals as goal

pub returns-in_err-number-clause-none : goal.returns-in_err-number-clause-none
returns-in_err-number-clause-none c =
    let k = c.args.claim.now in
    let keys = c.self.invariant ∙ ap (map (λ (f : Fact). f.claim)) c.self.view_is in
    let missing = ap (list_any (claim_eq.it k)) (sym keys) ∙ (sym c.get_index_of.ensures.found ∙ ap is_some c.in_err-number.was) in
    subst (λ (r : Option ℕ). IfNone r (All (λ (f : Fact). f.claim ≢ k) c.args.self.now)) (sym c.from_residual.ensures) (none claim_eq.it claim_decides (λ (f : Fact). f.claim) c.args.self.now k missing)

pub returns-clause-found : goal.returns-clause-found
returns-clause-found c =
    let k = c.args.claim.now in
    let keys = c.self.invariant ∙ ap (map (λ (f : Fact). f.claim)) c.self.view_is in
    let at = ap (position (claim_eq.it k)) (sym keys) ∙ (sym c.get_index_of.ensures.index ∙ c.in_ok-number.was) in
    let is = found claim_eq.it claim_decides (λ (f : Fact). f.claim) c.args.self.now k c.in_ok-number.number at in
    record { within = is.0; claim_is = is.1 }
