-- What valid records show, whoever wrote them: all facts given are true, no match has all pairs of any ban given, and
-- where the account concludes that there is no match, there is none.
use Rattle.std.specs.Prelude.{◌≡◌, Option, None, Some}
use Rattle.circuits.specs.Matches.{HaveNpnpEqualFunctions}
use Rattle.net_core.specs.Sides.{Graphs}
use Rattle.claim_core.specs.Claims.{IsClaim}
use Rattle.claim_core.specs.ClaimQueries.{claim_query}
use Rattle.account_core.specs.Exclusions.{AreRight}
use Rattle.account_check.specs.declared.verdict.Verdict.TheVariants as verdict
use Rattle.account_check.specs.Logs.{OpenFact}
use Rattle.account_check.specs.Accounts.{Account}
use Rattle.account_check.specs.Proofs.{IsLogSoFar}

-- The claim's output and inputs are there, and the lines of its log are derived.
pub record IsBeingShown (graphs : Graphs) (fact : OpenFact) : Type 0 where
  pub placed : IsClaim graphs fact.claim
  pub log : IsLogSoFar graphs (claim_query graphs fact.claim) fact.taken

-- the log that is open, if one is, shows its claim so far
abbrev pub IsOpenFact : Graphs → Option OpenFact → Type 0
IsOpenFact graphs None = Unit {0}
IsOpenFact graphs (Some fact) = IsBeingShown graphs fact

-- no signed bijections make the circuits' functions equal
abbrev pub HaveNoMatch : Graphs → Type 0
HaveNoMatch graphs = HaveNpnpEqualFunctions graphs.first graphs.second → ⊥

-- An account is right as far as it has come.
pub record IsRight (account : Account) : Type 0 where
  pub given : AreRight account.graphs account.given
  pub fact : IsOpenFact account.graphs account.fact
  pub refused : account.concluded ≡ Some verdict.None → HaveNoMatch account.graphs
