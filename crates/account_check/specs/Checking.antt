-- How far the check of an account has come, whose bytes come in pieces.
use Rattle.std.specs.Prelude.{◌≡◌, ℕ, Bool, true, false, List, ◌++◌, None, Result, Ok, Err}
use Rattle.net_core.specs.Sides.{Graphs}
use Rattle.account_file.specs.declared.record.Record.{Record}
use Rattle.account_file.specs.declared.fault.FileStop.{FileStop}
use Rattle.account_file.specs.declared.fault.FileStop.TheVariants as file
use Rattle.account_file.specs.Accounts.{AreAll, IsAccountOf}
use Rattle.account_file.specs.Reading.{Reading, HasRead}
use Rattle.account_check.specs.declared.reject.RecordStop.{RecordStop}
use Rattle.account_check.specs.declared.reject.RecordStop.TheVariants as stop
use Rattle.account_check.specs.declared.verdict.Why.TheVariants as why
use Rattle.account_check.specs.declared.verdict.CheckStop.{CheckStop}
use Rattle.account_check.specs.declared.verdict.CheckStop.TheVariants.{Rejected, Memory}
use Rattle.account_check.specs.Accounts.{Account, account_after, AreValid}
use Rattle.account_check.specs.Verdicts.{IsVerdict}

-- Some records of a text were read and taken, without a fault. More bytes may come, or none (`finished`).
pub record IsChecking (finished : Bool) (graphs : Graphs) (bytes : List ℕ) (reading : Reading) (account : Account) : Type 0 where
  pub records : List Record
  pub read : HasRead reading bytes records
  pub finished_is : reading.finished ≡ finished
  pub no_fault : reading.fault ≡ None
  pub valid : AreValid graphs records
  pub account_is : account ≡ account_after graphs records

-- the same, of some text and circuits
abbrev pub IsUnderCheck : Reading → Account → Type 0
IsUnderCheck reading account =
    (finished : Bool) × (graphs : Graphs) × (bytes : List ℕ) × IsChecking finished graphs bytes reading account

-- All records of a text were taken, of which more bytes may come.
pub record AreTaken (graphs : Graphs) (bytes : List ℕ) (reading : Reading) (account : Account) : Type 0 where
  pub so_far : IsChecking false graphs bytes reading account
  pub all : AreAll bytes so_far.records

-- All records of a text were taken, and it is whole.
pub record IsDone (graphs : Graphs) (bytes : List ℕ) (account : Account) : Type 0 where
  pub records : List Record
  pub are : IsAccountOf bytes records
  pub valid : AreValid graphs records
  pub account_is : account ≡ account_after graphs records

-- each whole record was taken, of a text that is at its end, or of one that may go on
abbrev pub IsThrough : Bool → Graphs → List ℕ → Reading → Account → Type 0
IsThrough true graphs bytes reading account = IsDone graphs bytes account
IsThrough false graphs bytes reading account = AreTaken graphs bytes reading account

-- what is said of a text; of whatever it goes on as, where more bytes may come
abbrev pub WhateverFollows : Bool → List ℕ → (List ℕ → Type 0) → Type 0
WhateverFollows true bytes P = P bytes
WhateverFollows false bytes P = (more : List ℕ) → P (bytes ++ more)

-- what a stop says: the first bad record of a text
abbrev pub TellsStop : Bool → Graphs → List ℕ → CheckStop → Type 0
TellsStop finished graphs bytes stop = WhateverFollows finished bytes (λ text. IsVerdict graphs text (Err stop))

-- what a step says: one record more was taken, or all are, or the next line is bad
abbrev pub Goes : Bool → Graphs → List ℕ → Reading → Account → Result Bool CheckStop → Type 0
Goes finished graphs bytes reading account (Ok true) = IsChecking finished graphs bytes reading account
Goes finished graphs bytes reading account (Ok false) = IsThrough finished graphs bytes reading account
Goes finished graphs bytes reading account (Err stop) = TellsStop finished graphs bytes stop

-- what all steps say: all records are taken, or a line is bad
abbrev pub TakesAll : Bool → Graphs → List ℕ → Reading → Account → Result (Unit {0}) CheckStop → Type 0
TakesAll finished graphs bytes reading account (Ok done) = IsThrough finished graphs bytes reading account
TakesAll finished graphs bytes reading account (Err stop) = TellsStop finished graphs bytes stop

-- How far an account was read, and what its records came to.
pub record Progress : Type 0 where
  pub reading : Reading
  pub account : Account

-- Of these bytes of an account of two circuits, all whole records are valid, and were taken.
abbrev pub HasTaken : Graphs → List ℕ → Progress → Type 0
HasTaken graphs bytes progress = AreTaken graphs bytes progress.reading progress.account

-- more bytes may be fed
abbrev pub IsUnderWay : Progress → Type 0
IsUnderWay progress = (graphs : Graphs) × (bytes : List ℕ) × HasTaken graphs bytes progress

-- Feeding: of the bytes so far all whole records are valid; or one of them is the first bad one, whatever comes after
-- it.
abbrev pub Feeds : Graphs → List ℕ → Progress → Result (Unit {0}) CheckStop → Type 0
Feeds graphs bytes progress result = TakesAll false graphs bytes progress.reading progress.account result

-- why an account is given up at a line
abbrev pub unread : ℕ → FileStop → CheckStop
unread line (file.Fault fault) = Rejected line (why.Form fault)
unread line file.Memory = Memory

-- why an account is given up at a record that is well written, and wrong
abbrev pub refused : ℕ → RecordStop → CheckStop
refused line (stop.Reject reject) = Rejected line (why.Record reject)
refused line stop.Memory = Memory
