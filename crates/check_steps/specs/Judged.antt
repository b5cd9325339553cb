-- What an account says of two graphs.
use Rattle.std.specs.Prelude.{◌≡◌, ◌≢◌, ℕ, Bool, IsTrue, List, Option, None, Some, Result, Err, IfOk, OnOk}
use Rattle.circuits.specs.Matches.{IsMatchOfFunctions, HaveNpnpEqualFunctions}
use Rattle.circuits.specs.Netlists.{Net}
use Rattle.shelf_core.specs.Fault.{NoCallFollows, Rose}
use Rattle.shelf_core.specs.State.{ShelfState}
use Rattle.net_core.specs.Sides.{Graphs}
use Rattle.net_core.specs.declared.matching.Matching.{Matching}
use Rattle.net_file.specs.declared.named.Named.{Named}
use Rattle.query_core.specs.Ledgers.{Ledgered}
use Rattle.account_check.specs.Verdicts.{IsAccepted as Proves, IsRejected as IsBadAt}
use Rattle.account_check.specs.declared.verdict.Verdict.TheVariants as verdict
use Rattle.check_steps.specs.Lines.{HasMatching}
use Rattle.check_steps.specs.declared.outcome.Which.TheVariants.{Account}
use Rattle.check_steps.specs.declared.outcome.Outcome.{Outcome}
use Rattle.check_steps.specs.declared.outcome.Outcome.TheVariants.{AcceptedMatch, AcceptedRefusal, Rejected, Matched, NoMatching, Usage, Absent, Informed, Made}
use Rattle.check_steps.specs.declared.outcome.Outcome.TheVariants.{Restored, Trimmed, Converted}
use Rattle.check_steps.specs.declared.outcome.Outcome.TheVariants.{Flattened, Swept, Tried, ReadFault, WriteFault}
use Rattle.check_steps.specs.declared.files.ReadStop.{ReadStop}
use Rattle.check_steps.specs.declared.files.ReadStop.TheVariants as stop

-- the graphs of two netlists
abbrev pub graphs_of : Named → Named → Graphs
graphs_of first second = record { first = first.graph; second = second.graph }

-- what an outcome says of two graphs and of what stands under the account's name
abbrev pub IsVerdict : Graphs → Option (List ℕ) → Outcome → Type 0
IsVerdict graphs content (AcceptedMatch matching) =
    (account : List ℕ) × (content ≡ Some account) × Proves graphs account (verdict.Match matching)
IsVerdict graphs content AcceptedRefusal =
    (account : List ℕ) × (content ≡ Some account) × Proves graphs account verdict.None
IsVerdict graphs content (Rejected line why) =
    (account : List ℕ) × (content ≡ Some account) × IsBadAt graphs account line why
IsVerdict graphs content (Absent file) = (file ≡ Account) × (content ≡ None)
IsVerdict graphs content other = ⊥

-- a matching that is accepted or found is a match of the graphs
abbrev pub IsMatchIfAny : Net → Net → Outcome → Type 0
IsMatchIfAny f g outcome =
    (matching : Matching) → HasMatching outcome matching → IsMatchOfFunctions f g matching.inputs matching.outputs

-- where a refusal is accepted, no signed bijections make the graphs' functions equal
abbrev pub IsUnequalIfRefused : Net → Net → Outcome → Type 0
IsUnequalIfRefused f g outcome = outcome ≡ AcceptedRefusal → HaveNpnpEqualFunctions f g → ⊥

-- an outcome that two netlists and an account were judged by
pub record IsJudged (outcome : Outcome) : Type 0 where
  pub asked : outcome ≢ Usage
  pub no_rows : outcome ≢ Informed
  pub read : outcome ≢ ReadFault
  pub unwritten : outcome ≢ WriteFault
  pub no_match : outcome ≢ NoMatching
  pub no_pair : outcome ≢ Made
  pub no_netlist : (gates : ℕ) → outcome ≢ Restored gates
  pub untrimmed : (before after : ℕ) → outcome ≢ Trimmed before after
  pub unconverted : (from to records : ℕ) → outcome ≢ Converted from to records
  pub unflattened : (models instances gates : ℕ) → outcome ≢ Flattened models instances gates
  pub unswept : (before after : ℕ) (left : Option Ledgered) → outcome ≢ Swept before after left
  pub no_trial : (number : ℕ) (account : List ℕ) → outcome ≢ Tried number account
  pub unmatched : (matching : Matching) → outcome ≢ Matched matching

-- Judging two graphs by what stands under the account's name.
pub record Judges (tells : Bool) (graphs : Graphs) (content : Option (List ℕ)) (old new : ShelfState) (result : Result Outcome ReadStop) : Type 0 where
  pub files : (n : List ℕ) → new.held n ≡ old.held n
  pub right : IsTrue tells → IfOk result (IsVerdict graphs content)
  pub matches : IfOk result (IsMatchIfAny graphs.first graphs.second)
  pub refuses : IfOk result (IsUnequalIfRefused graphs.first graphs.second)
  pub judged : IfOk result IsJudged
  pub clean : OnOk result (new.faults ≡ old.faults)
  pub last : NoCallFollows old new
  pub failed : result ≡ Err stop.ReadFault → Rose old.faults new.faults
