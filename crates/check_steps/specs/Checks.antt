-- What a check does, and what its outcome says of the words and the files.
use Rattle.std.specs.Prelude.{◌≡◌, ℕ, Bool, IsTrue, List, Option, Result, Ok, Err, IfOk, IfErr, OnOk}
use Rattle.shelf_core.specs.Fault.{NoCallFollows, Rose}
use Rattle.shelf_core.specs.State.{ShelfState, Closed}
use Rattle.net_core.specs.declared.matching.Matching.{Matching}
use Rattle.account_check.specs.declared.verdict.Verdict.TheVariants as verdict
use Rattle.check_steps.specs.Words.{AsksCheck}
use Rattle.check_steps.specs.Held.{Netlist}
use Rattle.check_steps.specs.Check.{IsAccepted, IsAsked, IsMatchOfFiles, IsRejected, LacksMatch}
use Rattle.check_steps.specs.Ends.{EndsEarly, IsAbsent}
use Rattle.check_steps.specs.Lines.{port_names, report_on}
use Rattle.check_steps.specs.Reading.{IsOfReading, IsReadFrom}
use Rattle.check_steps.specs.Judged.{IsJudged, IsMatchIfAny, IsUnequalIfRefused, IsVerdict, graphs_of}
use Rattle.check_steps.specs.declared.checking.Judgement.{Judgement}
use Rattle.check_steps.specs.declared.words.Check.{Check}
use Rattle.check_steps.specs.declared.outcome.Ending.{Ending}
use Rattle.check_steps.specs.declared.outcome.Outcome.{Outcome}
use Rattle.check_steps.specs.declared.outcome.Outcome.TheVariants.{AcceptedMatch, AcceptedRefusal, Rejected, Absent, TooLarge, Malformed, ReadFault, Memory}

-- the words ask for this check
abbrev pub AskFor : List (List ℕ) → Check → Type 0
AskFor words check = AsksCheck words check.first.now check.second.now check.account.now

-- What the outcome of a check says of the words and the files. No other outcome ends one; a fault of the outside and
-- running out of memory say nothing of them.
abbrev pub IsOfCheck : (List ℕ → Option (List ℕ)) → List (List ℕ) → Outcome → Type 0
IsOfCheck held words (AcceptedMatch matching) = IsAccepted held words (verdict.Match matching)
IsOfCheck held words AcceptedRefusal = IsAccepted held words verdict.None
IsOfCheck held words (Rejected line why) = IsRejected held words line why
IsOfCheck held words (Absent which) = IsAbsent held words which
IsOfCheck held words (TooLarge which) = EndsEarly held words (TooLarge which)
IsOfCheck held words (Malformed which kind at) = EndsEarly held words (Malformed which kind at)
IsOfCheck held words ReadFault = Unit {0}
IsOfCheck held words Memory = Unit {0}
IsOfCheck held words other = ⊥

-- Whoever wrote the account, a matching that is accepted is a match of the files' netlists, and where a refusal is
-- accepted they have no match.
pub record IsSound (held : List ℕ → Option (List ℕ)) (words : List (List ℕ)) (outcome : Outcome) : Type 0 where
  pub matches : (matching : Matching) → outcome ≡ AcceptedMatch matching → IsMatchOfFiles held words matching
  pub refuses : outcome ≡ AcceptedRefusal → LacksMatch held words

-- The text is the report of an outcome of the two files that a check names, with the names of their ports.
pub record IsCheckReport (tells : Bool) (held : List ℕ → Option (List ℕ)) (words : List (List ℕ)) (outcome : Outcome)
    (text : List ℕ) : Type 0 where
  pub first : Netlist
  pub second : Netlist
  pub of_files : IsTrue tells → (account_name : List ℕ) × IsAsked held words first second account_name
  pub same : text ≡ report_on (port_names first) (port_names second) outcome

-- how a run ends
abbrev pub ended : Result Ending Outcome → Outcome
ended (Ok ending) = ending.outcome
ended (Err outcome) = outcome

-- Reading the two netlists that a check names, and judging them by the account that it names.
pub record JudgesFiles (tells : Bool) (check : Check) (old new : ShelfState) (result : Result Judgement Outcome) : Type 0 where
  -- no file changes, and none is open after an answer
  pub files : (n : List ℕ) → new.held n ≡ old.held n
  pub closed : OnOk result (new.mode ≡ Closed)
  -- the netlists are those of the files, and what the account says of them is right
  pub first : IfOk result (λ answer. IsReadFrom tells (old.held check.first.now) answer.first)
  pub second : IfOk result (λ answer. IsReadFrom tells (old.held check.second.now) answer.second)
  pub verdict : IsTrue tells
      → IfOk result (λ answer. IsVerdict (graphs_of answer.first answer.second) (old.held check.account.now) answer.outcome)
  pub matches : IfOk result (λ answer. IsMatchIfAny answer.first.graph answer.second.graph answer.outcome)
  pub refuses : IfOk result (λ answer. IsUnequalIfRefused answer.first.graph answer.second.graph answer.outcome)
  pub judged : IfOk result (λ answer. IsJudged answer.outcome)
  -- else the outcome is what a file says, or a fault
  pub right : IsTrue tells → (words : List (List ℕ)) → AskFor words check → IfErr result (IsOfCheck old.held words)
  pub early : IfErr result IsOfReading
  -- a fault has its cause outside, and no call follows it
  pub clean : OnOk result (new.faults ≡ old.faults)
  pub last : NoCallFollows old new
  pub failed : result ≡ Err ReadFault → Rose old.faults new.faults

-- Checking the account that the words name against the two netlists that they name.
pub record Checks (tells : Bool) (check : Check) (old new : ShelfState) (result : Result Ending Outcome) : Type 0 where
  -- no file changes
  pub files : (n : List ℕ) → new.held n ≡ old.held n
  -- the outcome is what the files say
  pub right : IsTrue tells → (words : List (List ℕ)) → AskFor words check → IsOfCheck old.held words (ended result)
  -- an accepted matching is a match of the files' netlists, and an accepted refusal is right
  pub sound : IsTrue tells
      → (words : List (List ℕ))
      → AskFor words check
      → IfOk result (λ ending. IsSound old.held words ending.outcome)
  pub report : (words : List (List ℕ))
      → AskFor words check
      → IfOk result (λ ending. IsCheckReport tells old.held words ending.outcome ending.report.items)
  -- whatever the shelf tells, the outcome is that of an account, or came before both netlists were read
  pub judged : IfOk result (λ ending. IsJudged ending.outcome)
  pub early : IfErr result IsOfReading
  -- a fault has its cause outside, and no call follows it
  pub last : NoCallFollows old new
  pub failed : result ≡ Err ReadFault → Rose old.faults new.faults
