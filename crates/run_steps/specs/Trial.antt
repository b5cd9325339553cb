-- What `trial` finds of the pair of netlists that a number gives.
use Rattle.std.specs.Prelude.{ℕ, List}
use Rattle.circuits.specs.Matches.{IsMatchOfFunctions}
use Rattle.account_check.specs.Verdicts.{IsAccepted as Proves}
use Rattle.account_check.specs.declared.verdict.Verdict.TheVariants as verdict
use Rattle.net_core.specs.Sides.{Graphs}
use Rattle.net_core.specs.declared.matching.Matching.{Matching}
use Rattle.query_core.specs.Ledgers.{Ledgered}
use Rattle.run_steps.specs.Info.{IsSpentOf}
use Rattle.run_steps.specs.Make.{IsPairOf}
use Rattle.check_steps.specs.Words.{AsksTrial, default_budget}

-- The account is accepted for the pair of a number: it proves that a matching is a match of the two, which it is.
pub record IsTrialOf (number : ℕ) (account : List ℕ) : Type 0 where
  pub graphs : Graphs
  pub hidden : Matching
  pub pair : IsPairOf number graphs.first graphs.second hidden
  pub matching : Matching
  pub accepted : Proves graphs account (verdict.Match matching)
  pub matches : IsMatchOfFunctions graphs.first graphs.second matching.inputs matching.outputs

-- The words ask for a trial of a number, and the account is accepted for its pair.
pub record IsTried (words : List (List ℕ)) (number : ℕ) (account : List ℕ) : Type 0 where
  pub asks : AsksTrial words number
  pub trial : IsTrialOf number account

-- The default budget was spent on the pair of a number.
pub record IsSpentOnPairOf (number : ℕ) (ledger : Ledgered) : Type 0 where
  pub graphs : Graphs
  pub hidden : Matching
  pub pair : IsPairOf number graphs.first graphs.second hidden
  pub spent : IsSpentOf graphs default_budget ledger

-- The words ask for a trial of a number, on whose pair the default budget was spent.
pub record IsSpentOnPair (words : List (List ℕ)) (ledger : Ledgered) : Type 0 where
  pub number : ℕ
  pub asks : AsksTrial words number
  pub spent : IsSpentOnPairOf number ledger
