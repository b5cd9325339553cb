-- The fact of the claim's number has evidence for the claim, or against it.
use Rattle.std.proofs.Common.{get_or, ap, sym, subst, ◌∙◌}
use Rattle.std.specs.Bool.{Decides}
use Rattle.net_core.specs.declared.graphs.Side.TheVariants.{First}
use Rattle.claim_core.specs.declared.claims.Claim.{Claim}
use Rattle.claim_core.specs.Claims.{Holds}
use Rattle.account_core.specs.Facts.{AreFacts}
use Rattle.fact_tests.proofs.ClaimFacts.{told}
use Rattle.fact_tests.proofs.first_output.FirstOutput.holds.Goals as goal

pub returns-clause-told : goal.returns-clause-told
returns-clause-told g c =
    let graphs = c.args.self.now.graphs.now in
    let known = g.O.Oracle.known c.claim.new.self in
    let claim : Claim = record { side = First; output = c.args.self.now.number; shape = c.args.shape } in
    let fact = c.index-facts-number.result in
    let lawful = subst (λ graphs. AreFacts graphs known.facts) (c.claim.ensures.serves.grows.graphs ∙ c.requires.may.graphs_are) c.facts.ensures.lawful in
    let same = c.index-facts-number.is ∙ ap (λ facts. get_or facts c.in_ok-number.number fact) c.facts.ensures.value in
    subst (λ answer. Decides answer (Holds graphs claim)) (sym c.holds.ensures) (told graphs known.facts claim c.in_ok-number.number fact c.requires.may.first c.requires.may.second lawful c.in_ok-number.ensures.number same)
