-- A vector that meets the claim's query breaks the claim.
use Rattle.std.proofs.Common.{sym, subst}
use Rattle.ask_core.specs.Answers.{IsAnswer}
use Rattle.claim_core.specs.Claims.{Breaks}
use Rattle.claim_core.specs.ClaimQueries.{claim_query}
use Rattle.claim_core.proofs.ClaimQueryLemmas.{meets-breaks}
use Rattle.fact_tests.proofs.deciding.evidence_of.Goals as goal

pub returns-in_ok-vector-in-Vector : goal.returns-in_ok-vector-in-Vector
returns-in_ok-vector-in-Vector c =
    let graphs = c.args.graphs.now in
    let claim = c.args.claim.now in
    let x = c.in-Vector.vector in
    let told = subst (IsAnswer graphs (claim_query graphs claim)) c.in-Vector.is c.requires.answer in
    subst (Breaks graphs claim) (sym c.in_ok-vector-in-Vector.ensures) (meets-breaks graphs claim x c.requires.placed told.bits told.meets)
