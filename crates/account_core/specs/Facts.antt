-- Facts about two circuits: claims that were decided, each with its evidence (this project's).
use Rattle.std.specs.Prelude.{◌≢◌, List, All, AllPairs}
use Rattle.cnf_core.specs.Derivations.{IsRefutation}
use Rattle.net_core.specs.Sides.{Graphs}
use Rattle.claim_core.specs.declared.claims.Claim.{Claim}
use Rattle.claim_core.specs.Claims.{Breaks, IsClaim}
use Rattle.claim_core.specs.Formulas.{formula_of}
use Rattle.claim_core.specs.ClaimQueries.{claim_query}
use Rattle.account_core.specs.declared.fact.Evidence.{Evidence}
use Rattle.account_core.specs.declared.fact.Evidence.TheVariants.{Fails, Holds}
use Rattle.account_core.specs.declared.fact.Fact.{Fact}

-- the vector breaks the claim, or the log refutes the claim's query
abbrev pub IsEvidence : Graphs → Claim → Evidence → Type 0
IsEvidence graphs claim (Fails vector) = Breaks graphs claim vector
IsEvidence graphs claim (Holds log) = IsRefutation (formula_of graphs (claim_query graphs claim)) log.lines

-- A claim that is well placed, with evidence for it or against it.
pub record IsFact (graphs : Graphs) (fact : Fact) : Type 0 where
  pub placed : IsClaim graphs fact.claim
  pub evidence : IsEvidence graphs fact.claim fact.evidence

-- Facts, no two of one claim.
pub record AreFacts (graphs : Graphs) (facts : List Fact) : Type 0 where
  pub each : All (IsFact graphs) facts
  pub distinct : AllPairs (λ one other. one.claim ≢ other.claim) facts
