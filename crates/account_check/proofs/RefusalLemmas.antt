-- An account that is accepted as a refusal is one.
use Rattle.std.proofs.Common.{◌≡◌, ℕ, List, Option, Some, subst}
use Rattle.net_core.specs.Sides.{Graphs}
use Rattle.net_core.specs.Graph.{IsGraph}
use Rattle.account_file.specs.declared.place.Place.{Place}
use Rattle.account_file.specs.declared.place.Place.TheVariants as place
use Rattle.account_check.specs.declared.verdict.Verdict.{Verdict}
use Rattle.account_check.specs.declared.verdict.Verdict.TheVariants as verdict
use Rattle.account_check.specs.Accounts.{account_after, verdict_at}
use Rattle.account_check.specs.Rightness.{HaveNoMatch}
use Rattle.account_check.specs.Verdicts.{IsAccepted}
use Rattle.account_check.proofs.AccountLemmas.{account_graphs}
use Rattle.account_check.proofs.RightLemmas.{right_records}

-- an account's verdict is its conclusion
pub concluded_so : (place : Place) (concluded : Option Verdict) (told : Verdict) → verdict_at place concluded ≡ Some told → concluded ≡ Some told
concluded_so place.Ended concluded told e = e
concluded_so other concluded told e = cc

pub right_refusal : (graphs : Graphs) (bytes : List ℕ) → IsGraph graphs.first → IsGraph graphs.second → IsAccepted graphs bytes verdict.None → HaveNoMatch graphs
right_refusal graphs bytes first second accepted =
    let account = account_after graphs accepted.records in
    let right = right_records graphs accepted.records first second accepted.valid in
    let concluded = concluded_so account.place account.concluded verdict.None accepted.verdict_is in
    subst HaveNoMatch (account_graphs graphs accepted.records) (right.refused concluded)
