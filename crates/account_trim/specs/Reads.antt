-- How far the records of an account were read.
use Rattle.std.specs.Prelude.{◌≡◌, ℕ, true, List}
use Rattle.account_file.specs.declared.record.Record.{Record}
use Rattle.account_file.specs.Reading.{HasRead, Reading}

-- All bytes of a text came, and these records were read, without a fault.
pub record IsReading (bytes : List ℕ) (reading : Reading) (records : List Record) : Type 0 where
  pub read : HasRead reading bytes records
  pub finished : reading.finished ≡ true
