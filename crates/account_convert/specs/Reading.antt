-- What the records of an account lead to, as they are read.
use Rattle.std.specs.Prelude.{◌≡◌, ℕ, Bool, true, false, List, length, None, Result, Ok, Err}
use Rattle.account_file.specs.declared.record.Record.{Record}
use Rattle.account_file.specs.Accounts.{IsAccountOf}
use Rattle.account_file.specs.Reading.{HasRead, Reading}
use Rattle.account_convert.specs.declared.stop.ConvertStop.{ConvertStop}
use Rattle.account_convert.specs.declared.stop.ConvertStop.TheVariants as stop
use Rattle.account_convert.specs.Conversions.{IsFaultAt}

-- what records lead to: from a state, these records, to a state
abbrev pub Leading : Type 0 → Type 1
Leading State = State → List Record → State → Type 0

-- Of a whole account some records were read, and led to a state.
pub record IsReading {State : Type 0} (leads : Leading State) (account : List ℕ) (first : State) (reading : Reading) (state : State) : Type 0 where
  pub records : List Record
  pub read : HasRead reading account records
  pub finished : reading.finished ≡ true
  pub no_fault : reading.fault ≡ None
  pub led : leads first records state

-- All records of an account, so many, were read, and led to a state.
pub record HasLed {State : Type 0} (leads : Leading State) (account : List ℕ) (first state : State) (count : ℕ) : Type 0 where
  pub records : List Record
  pub are : IsAccountOf account records
  pub counted : count ≡ length records
  pub led : leads first records state

-- why an account isn't read on: its first fault of form
abbrev pub IsStop : List ℕ → ConvertStop → Type 0
IsStop account (stop.Fault record_number fault) = IsFaultAt account record_number fault
IsStop account stop.Memory = Unit {0}

-- what a step says: one record more was read, or all were, or there is a fault
abbrev pub Goes : {State : Type 0} → Leading State → List ℕ → State → Reading → State → Result Bool ConvertStop → Type 0
Goes {State} leads account first reading state (Ok true) = IsReading leads account first reading state
Goes {State} leads account first reading state (Ok false) = HasLed leads account first state reading.line
Goes {State} leads account first reading state (Err stop) = IsStop account stop

-- what all steps say
abbrev pub GoesThrough : {State : Type 0} → Leading State → List ℕ → State → ℕ → State → Result (Unit {0}) ConvertStop → Type 0
GoesThrough {State} leads account first count state (Ok done) = HasLed leads account first state count
GoesThrough {State} leads account first count state (Err stop) = IsStop account stop
