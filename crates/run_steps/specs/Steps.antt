-- What the steps of a run do.
use Rattle.std.specs.Prelude.{◌≡◌, ◌≢◌, ℕ, ◌⊎◌, Bool, false, IsTrue, List, [], ◌++◌, take, Option, Some, Result, Err, IfOk, IfErr, OnOk, OnErr}
use Rattle.circuits.specs.Circuits.{Circuit}
use Rattle.circuits.specs.Functions.{Computes}
use Rattle.circuits.specs.Levels.{IsOrderOf}
use Rattle.circuits.specs.Matches.{IsMatchOfFunctions, HaveNpnpEqualFunctions}
use Rattle.shelf_core.specs.Fault.{NoCallFollows, NoPutFollows, Rose}
use Rattle.shelf_core.specs.State.{ShelfState, SinkState, Closed}
use Rattle.net_core.specs.Sides.{Graphs}
use Rattle.net_core.specs.declared.matching.Matching.{Matching}
use Rattle.net_file.specs.declared.named.Named.{Named}
use Rattle.query_core.specs.Ledgers.{Ledgered}
use Rattle.account_file.specs.Binary.{is_binary}
use Rattle.account_check.specs.Verdicts.{IsAccepted as Proves}
use Rattle.account_check.specs.declared.verdict.Verdict.{Verdict}
use Rattle.account_check.specs.declared.verdict.Verdict.TheVariants as verdict
use Rattle.port_report.specs.Reports.{names_of}
use Rattle.run_steps.specs.Writing.{HasFirst}
use Rattle.run_steps.specs.Info.{IsInfoText, IsSpentOf, with_itself}
use Rattle.run_steps.specs.Make.{IsCutFrom}
use Rattle.run_steps.specs.Trial.{IsSpentOnPairOf, IsTrialOf}
use Rattle.run_steps.specs.Outcomes.{FollowsWords, IsRight, IsSoundAnswer, IsReported, Leaves}
use Rattle.check_steps.specs.Lines.{line_of, report_on}
use Rattle.run_steps.specs.Report.{IsReport}
use Rattle.check_steps.specs.Checks.{ended}
use Rattle.check_steps.specs.declared.outcome.Outcome.{Outcome}
use Rattle.check_steps.specs.declared.outcome.Outcome.TheVariants.{Matched, NoMatching, Spent, Usage, Informed, Tried, ReadFault, WriteFault, Memory}
use Rattle.check_steps.specs.declared.words.Command.{Command}
use Rattle.check_steps.specs.declared.outcome.Ending.{Ending}
use Rattle.check_steps.specs.Asks.{Ask}
use Rattle.run_steps.specs.Commands.{IsNotWritten, IsWritingCommand}
use Rattle.check_steps.specs.Reading.{IsEarly}
use Rattle.check_steps.specs.Judged.{graphs_of}

-- what ends a run that asks about two graphs: the budget is spent on them, or memory ran out
abbrev pub IsStopWithin : Graphs → ℕ → Outcome → Type 0
IsStopWithin graphs budget outcome =
    ((ledger : Ledgered) × (outcome ≡ Spent ledger) × IsSpentOf graphs budget ledger) ⊎ (outcome ≡ Memory)

-- An ending of one netlist: its report, within the budget.
pub record InformsOf (named : Named) (budget : ℕ) (result : Result Ending Outcome) : Type 0 where
  pub rows : IfOk result (λ ending. (ending.outcome ≡ Informed)
      × ((circuit : Circuit)
      → Computes named.graph circuit
      → IsOrderOf circuit named.graph
      → IsInfoText circuit named ending.report.items))
  pub stopped : IfErr result (IsStopWithin (with_itself named.graph) budget)

-- an answer for two graphs, with an account that is accepted: a match, or that there is none
abbrev pub IsAnswered : Graphs → List ℕ → Outcome → Type 0
IsAnswered graphs account outcome =
    (is_binary account ≡ false)
    × (((matching : Matching) × (outcome ≡ Matched matching)
    × Proves graphs account (verdict.Match matching)
    × IsMatchOfFunctions graphs.first graphs.second matching.inputs matching.outputs)
    ⊎ ((outcome ≡ NoMatching)
    × Proves graphs account verdict.None
    × (HaveNpnpEqualFunctions graphs.first graphs.second → ⊥)))

-- an account of a match of two graphs that is accepted
pub record IsProvedMatch (graphs : Graphs) (account : List ℕ) : Type 0 where
  pub matching : Matching
  pub accepted : Proves graphs account (verdict.Match matching)
  pub matches : IsMatchOfFunctions graphs.first graphs.second matching.inputs matching.outputs

-- Nothing was asked in a ledger.
abbrev pub IsNew : Ledgered → Type 0
IsNew ledger = ledger ≡ record { budget = ledger.budget; asked = []; spent = false }

-- a write was refused
abbrev pub IsUnwritten : Outcome → Type 0
IsUnwritten outcome = (outcome ≡ WriteFault) ⊎ (outcome ≡ Memory)

-- Writing an account under a name, and ending a run where it was written.
pub record Concludes (tells : Bool) (name text : List ℕ) (ending : Ending) (old new : ShelfState)
    (result : Result Ending Outcome) : Type 0 where
  pub others : IsTrue tells → (n : List ℕ) → n ≢ name → new.held n ≡ old.held n
  pub same : IfOk result (λ answer. answer ≡ ending)
  pub whole : IsTrue tells → OnOk result (new.held name ≡ Some text)
  pub stopped : IfErr result IsUnwritten
  pub part : IsTrue tells → OnErr result ((new.held name ≡ old.held name) ⊎ HasFirst text (new.held name))
  pub last : NoCallFollows old new
  pub failed : result ≡ Err WriteFault → Rose old.faults new.faults

-- what stands under the account's name is as before, or the first bytes of an account of two graphs that is accepted, a
-- text
abbrev pub IsCutOf : Graphs → Option (List ℕ) → Option (List ℕ) → Type 0
IsCutOf graphs before after =
    (after ≡ before)
    ⊎ ((account : List ℕ) × (proved : Verdict) × Proves graphs account proved × (is_binary account ≡ false)
    × HasFirst account after)

-- what ends a search for a match without an answer, by what stands under the account's name before and afterwards: the
-- budget is spent and nothing was written, or a write was refused
abbrev pub IsStopOfMatch : Bool → Graphs → ℕ → Option (List ℕ) → Option (List ℕ) → Outcome → Type 0
IsStopOfMatch tells graphs budget before after outcome =
    (IsStopWithin graphs budget outcome × (IsTrue tells → after ≡ before))
    ⊎ (IsUnwritten outcome × (IsTrue tells → IsCutOf graphs before after))

-- Searching two netlists for a match, and writing the account of the answer under a name.
pub record Finds (tells : Bool) (first second : Named) (account_name : List ℕ) (budget : ℕ) (old new : ShelfState)
    (result : Result Ending Outcome) : Type 0 where
  pub others : IsTrue tells → (n : List ℕ) → n ≢ account_name → new.held n ≡ old.held n
  pub answer : IfOk result (λ ending. (account : List ℕ)
      × IsAnswered (graphs_of first second) account ending.outcome
      × (IsTrue tells → new.held account_name ≡ Some account))
  pub report : IfOk result (λ ending. ending.report.items ≡ report_on (names_of first) (names_of second) ending.outcome)
  pub stopped : IfErr result
      (IsStopOfMatch tells (graphs_of first second) budget (old.held account_name) (new.held account_name))
  pub last : NoCallFollows old new
  pub failed : result ≡ Err WriteFault → Rose old.faults new.faults

-- Writing a text under a name, or ending the run where it wasn't written.
pub record WritesText (tells : Bool) (name text : List ℕ) (old new : ShelfState) (result : Result (Unit {0}) Outcome) : Type 0 where
  pub closed : OnOk result (new.mode ≡ Closed)
  pub others : IsTrue tells → (n : List ℕ) → n ≢ name → new.held n ≡ old.held n
  pub whole : IsTrue tells → OnOk result (new.held name ≡ Some text)
  pub stopped : IfErr result IsUnwritten
  pub part : IsTrue tells → OnErr result (IsCutFrom text (old.held name) (new.held name))
  pub clean : OnOk result (new.faults ≡ old.faults)
  pub last : NoCallFollows old new
  pub failed : result ≡ Err WriteFault → Rose old.faults new.faults

-- Writing two texts under two names, one after the other.
pub record WritesPair (tells : Bool) (first_name second_name first second : List ℕ) (old new : ShelfState)
    (result : Result (Unit {0}) Outcome) : Type 0 where
  pub others : IsTrue tells → (n : List ℕ) → n ≢ first_name → n ≢ second_name → new.held n ≡ old.held n
  pub whole : IsTrue tells
      → second_name ≢ first_name
      → OnOk result ((new.held first_name ≡ Some first) × (new.held second_name ≡ Some second))
  pub stopped : IfErr result IsUnwritten
  -- after a refusal in the first file the second is as it was; after one in the second the first is whole
  pub part : IsTrue tells → second_name ≢ first_name → OnErr result
      ((IsCutFrom first (old.held first_name) (new.held first_name) × (new.held second_name ≡ old.held second_name))
      ⊎ ((new.held first_name ≡ Some first) × IsCutFrom second (old.held second_name) (new.held second_name)))
  pub last : NoCallFollows old new
  pub failed : result ≡ Err WriteFault → Rose old.faults new.faults

-- what ends the trial of a pair: the budget is spent on it, or memory ran out
abbrev pub IsStopOfTrial : ℕ → Outcome → Type 0
IsStopOfTrial number outcome =
    ((ledger : Ledgered) × (outcome ≡ Spent ledger) × IsSpentOnPairOf number ledger) ⊎ (outcome ≡ Memory)

-- Trying the pair of a number: an account that is accepted for it, or nothing.
pub record Tries (number : ℕ) (result : Result Ending Outcome) : Type 0 where
  pub answer : IfOk result (λ ending. (account : List ℕ)
      × (ending.outcome ≡ Tried number account)
      × IsTrialOf number account
      × (ending.report.items ≡ line_of ending.outcome))
  pub stopped : IfErr result (IsStopOfTrial number)

-- an ending that is of what was judged, sought, or of one netlist
pub record IsEnding (outcome : Outcome) : Type 0 where
  pub asked : outcome ≢ Usage
  pub read : outcome ≢ ReadFault
  pub unwritten : outcome ≢ WriteFault

-- Deciding by the files that a command names.
pub record Decides (tells : Bool) (command : Command) (old new : ShelfState) (result : Result Ending Outcome) : Type 0 where
  -- no file changes but the account of a match, the two of a pair, a netlist that is restored, flattened or swept, and
  -- an account that is trimmed or converted
  pub files : IsTrue tells → (n : List ℕ) → IsNotWritten command n → new.held n ≡ old.held n
  pub left : IsTrue tells
      → (words : List (List ℕ))
      → Ask words command
      → Leaves old.held new.held words (ended result)
  -- what is decided is what the files say, for words that name them
  pub right : IsTrue tells
      → (words : List (List ℕ))
      → Ask words command
      → IsRight old.held words (ended result)
  -- and what the words alone say
  pub by_words : (words : List (List ℕ)) → Ask words command → FollowsWords words (ended result)
  -- an accepted matching is a match of the files' netlists, and an accepted refusal is right
  pub sound : IsTrue tells
      → (words : List (List ℕ))
      → Ask words command
      → IfOk result (λ ending. IsSoundAnswer old.held words ending.outcome)
  pub report : (words : List (List ℕ))
      → Ask words command
      → IfOk result (λ ending. IsReport tells old.held words ending.outcome ending.report.items)
  pub ending : IfOk result (λ ending. IsEnding ending.outcome)
  pub early : IfErr result IsEarly
  -- a fault has its cause outside, and no call follows it
  pub last : NoCallFollows old new
  pub failed : result ≡ Err ReadFault → Rose old.faults new.faults
  pub unwritten : result ≡ Err WriteFault → IsWritingCommand command × Rose old.faults new.faults

-- the ending says an outcome by its line, or there was no memory for the line
abbrev pub SaysLine : Outcome → Ending → Type 0
SaysLine outcome ending = ((ending.outcome ≡ outcome) × (ending.report.items ≡ line_of outcome)) ⊎ (ending.outcome ≡ Memory)

-- the first bytes of a text were written
abbrev pub WritesPart : SinkState → SinkState → List ℕ → Type 0
WritesPart old new text = (count : ℕ) × (new.written ≡ old.written ++ take count text)

-- Putting a text for an outcome: the run ends with the outcome, or the sink refused it.
pub record PutsText (tells : Bool) (text : List ℕ) (asked : Outcome) (old new : SinkState) (result : Outcome) : Type 0 where
  pub whole : IsTrue tells → IsReported result → new.written ≡ old.written ++ text
  pub part : IsTrue tells → WritesPart old new text
  pub same : IsReported result → result ≡ asked
  pub last : NoPutFollows old new
  pub failed : result ≡ WriteFault → Rose old.faults new.faults
