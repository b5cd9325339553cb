-- How an account is checked as it is read.
use Rattle.std.specs.Prelude.{◌≡◌, ℕ, ◌+◌, ◌<◌, Bool, IsTrue, List, ◌++◌, length, Some, Result, Ok, Err, IfOk, OnOk}
use Rattle.shelf_core.specs.Fault.{NoCallFollows, Rose}
use Rattle.shelf_core.specs.State.{ShelfState, Reading}
use Rattle.net_core.specs.Sides.{Graphs}
use Rattle.account_check.specs.declared.verdict.CheckStop.{CheckStop}
use Rattle.account_check.specs.declared.verdict.CheckStop.TheVariants as check
use Rattle.account_check.specs.declared.verdict.Why.{Why}
use Rattle.account_check.specs.Checking.{HasTaken, Progress}
use Rattle.account_check.specs.Verdicts.{IsRejected as IsBadAt}
use Rattle.check_steps.specs.Judged.{IsJudged, IsMatchIfAny, IsVerdict}
use Rattle.check_steps.specs.declared.files.ReadStop.{ReadStop}
use Rattle.check_steps.specs.declared.files.ReadStop.TheVariants as stop
use Rattle.check_steps.specs.declared.judging.Halt.{Halt}
use Rattle.check_steps.specs.declared.judging.Halt.TheVariants as halt
use Rattle.check_steps.specs.declared.outcome.Outcome.{Outcome}

-- what a check's stop means to the reading of the account
abbrev pub halt_of : CheckStop → Halt
halt_of (check.Rejected line why) = halt.Bad line why
halt_of check.Memory = halt.Stop stop.Memory

-- a fact, unless the shelf failed or memory ran out
abbrev pub IfAnswered : {T : Type 0} → Result T Halt → Type 0 → Type 0
IfAnswered (Ok value) P = P
IfAnswered (Err (halt.Bad line why)) P = P
IfAnswered (Err (halt.Stop stop)) P = Unit {0}

-- Reading once, after these bytes, and checking what came: it is all right, or a line is bad whatever comes after it.
pub record FeedsNext (tells : Bool) (graphs : Graphs) (bytes : List ℕ) (old new : ShelfState) (progress : Progress)
    (result : Result ℕ Halt) : Type 0 where
  pub files : (n : List ℕ) → new.held n ≡ old.held n
  pub mode : new.mode ≡ Reading
  pub left : IfOk result (λ count. (0 < count) × (count + new.left ≡ old.left))
  pub taken : IfOk result (λ count. (piece : List ℕ) × (length piece ≡ count) × HasTaken graphs (bytes ++ piece) progress
      × (IsTrue tells → piece ++ new.unread ≡ old.unread))
  pub bad : (line : ℕ) (why : Why) → result ≡ Err (halt.Bad line why)
      → (piece : List ℕ) × ((more : List ℕ) → IsBadAt graphs ((bytes ++ piece) ++ more) line why)
      × (IsTrue tells → piece ++ new.unread ≡ old.unread)
  pub clean : IfAnswered result (new.faults ≡ old.faults)
  pub last : NoCallFollows old new
  pub failed : result ≡ Err (halt.Stop stop.ReadFault) → Rose old.faults new.faults

-- Checking all unread bytes of an account, of which none was checked yet: all its whole lines are valid, or a line is
-- bad.
pub record FeedsRest (tells : Bool) (graphs : Graphs) (old new : ShelfState) (progress : Progress)
    (result : Result (Unit {0}) Halt) : Type 0 where
  pub files : (n : List ℕ) → new.held n ≡ old.held n
  pub mode : new.mode ≡ Reading
  pub taken : OnOk result ((account : List ℕ) × HasTaken graphs account progress × (IsTrue tells → account ≡ old.unread))
  pub bad : (line : ℕ) (why : Why) → result ≡ Err (halt.Bad line why)
      → (account : List ℕ) × IsBadAt graphs account line why × (IsTrue tells → account ≡ old.unread)
  pub clean : IfAnswered result (new.faults ≡ old.faults)
  pub last : NoCallFollows old new
  pub failed : result ≡ Err (halt.Stop stop.ReadFault) → Rose old.faults new.faults

-- What the unread bytes of an account come to.
pub record JudgesRest (tells : Bool) (graphs : Graphs) (old new : ShelfState) (result : Result Outcome ReadStop) : Type 0 where
  pub files : (n : List ℕ) → new.held n ≡ old.held n
  pub mode : new.mode ≡ Reading
  pub verdict : IfOk result (λ outcome. (account : List ℕ) × IsVerdict graphs (Some account) outcome
      × (IsTrue tells → account ≡ old.unread))
  pub matches : IfOk result (IsMatchIfAny graphs.first graphs.second)
  pub judged : IfOk result IsJudged
  pub clean : OnOk result (new.faults ≡ old.faults)
  pub last : NoCallFollows old new
  pub failed : result ≡ Err stop.ReadFault → Rose old.faults new.faults
