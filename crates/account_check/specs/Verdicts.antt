-- The verdict of an account's whole bytes (this project's format): what it proves, or its first bad record.
use Rattle.std.specs.Prelude.{◌≡◌, ℕ, ◌+◌, List, length, Some, Result, Ok, Err}
use Rattle.net_core.specs.Sides.{Graphs}
use Rattle.account_file.specs.declared.record.Record.{Record}
use Rattle.account_file.specs.Accounts.{HasFormFault, IsAccountOf, IsNextRecord}
use Rattle.account_check.specs.declared.verdict.Verdict.{Verdict}
use Rattle.account_check.specs.declared.verdict.Why.{Why}
use Rattle.account_check.specs.declared.verdict.Why.TheVariants as why
use Rattle.account_check.specs.declared.verdict.CheckStop.{CheckStop}
use Rattle.account_check.specs.declared.verdict.CheckStop.TheVariants.{Rejected, Memory}
use Rattle.account_check.specs.Accounts.{account_after, verdict_of, AreValid, HasFault}

-- What is wrong with the line after these records: its form; or it is a record that may stand there, and that has this
-- fault.
abbrev pub IsBad : Graphs → List ℕ → List Record → Why → Type 0
IsBad graphs bytes before (why.Form fault) = HasFormFault bytes before fault
IsBad graphs bytes before (why.Record reject) =
    (entry : Record) × IsNextRecord bytes before entry × HasFault (account_after graphs before) entry (Some reject)

-- The first bad record of an account, counted from 1: the lines before it are valid records, and it is bad.
pub record IsRejected (graphs : Graphs) (bytes : List ℕ) (line : ℕ) (reason : Why) : Type 0 where
  pub before : List Record
  pub valid : AreValid graphs before
  pub line_is : line ≡ length before + 1
  pub bad : IsBad graphs bytes before reason

-- An account proves its verdict: all its lines are valid records, up to the end, and nothing stands after.
pub record IsAccepted (graphs : Graphs) (bytes : List ℕ) (verdict : Verdict) : Type 0 where
  pub records : List Record
  pub account : IsAccountOf bytes records
  pub valid : AreValid graphs records
  pub verdict_is : verdict_of (account_after graphs records) ≡ Some verdict

-- an answer is the verdict, or memory ran out
abbrev pub IsVerdict : Graphs → List ℕ → Result Verdict CheckStop → Type 0
IsVerdict graphs bytes (Ok verdict) = IsAccepted graphs bytes verdict
IsVerdict graphs bytes (Err (Rejected line reason)) = IsRejected graphs bytes line reason
IsVerdict graphs bytes (Err Memory) = Unit {0}
