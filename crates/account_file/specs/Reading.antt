-- How far an account was read.
use Rattle.std.specs.Prelude.{◌≡◌, ℕ, ◌+◌, ◌-◌, ◌*◌, ◌≤◌, Bool, true, false, List, [], ◌∷◌, ◌++◌, length}
use Rattle.std.specs.Prelude.{drop, All, Option, None, Some, IfSome, is_some, Result, Ok, Err}
use Rattle.std.specs.Prelude.{if◌then◌else◌}
use Rattle.std.specs.List.{flat_map, position_or_len}
use Rattle.text_core.specs.Bytes.{is_line_feed}
use Rattle.account_file.specs.declared.record.Record.{Record}
use Rattle.account_file.specs.declared.fault.RecordFault.{RecordFault}
use Rattle.account_file.specs.declared.place.Place.{Place}
use Rattle.account_file.specs.Accounts.{SaysNext}
use Rattle.account_file.specs.Order.{place_after}
use Rattle.account_file.specs.Spelling.{IsWritable, record_line}
use Rattle.account_file.specs.Binary.{HasBytes, record_bytes}

-- How far an account was read: the bytes that are left; whether no more come; the number of the record that was given
-- or refused last; where the account stands; whether it is of version 2, which is known once a record was given; the
-- fault that was given; and how many bytes came in all.
pub record Reading : Type 0 where
  pub left : List ℕ
  pub finished : Bool
  pub line : ℕ
  pub place : Place
  pub binary : Bool
  pub fault : Option RecordFault
  pub total : ℕ

-- the bytes of a record: its line in version 1 (false), or those of version 2 (true)
abbrev pub spelled : Bool → Record → List ℕ
spelled false entry = record_line entry
spelled true entry = record_bytes entry

-- a record can be written in version 1 (false), or in version 2 (true)
abbrev pub IsSpelled : Bool → Record → Type 0
IsSpelled false entry = IsWritable entry
IsSpelled true entry = HasBytes entry

-- Of the account `bytes`, which came in whatever pieces, these records were given, and perhaps the fault after them.
pub record HasRead (reading : Reading) (bytes : List ℕ) (records : List Record) : Type 0 where
  pub text : bytes ≡ flat_map (spelled reading.binary) records ++ reading.left
  pub writable : All (IsSpelled reading.binary) records
  pub place : place_after records ≡ Some reading.place
  pub line : reading.line ≡ length records + (if is_some reading.fault then 1 else 0)
  pub total : reading.total ≡ length bytes
  pub fault : IfSome reading.fault (λ fault. SaysNext bytes reading.finished records (Err fault))

-- the records that an answer gives
abbrev pub given_by : {E : Type 0} → Result (Option Record) E → List Record
given_by {E} (Ok (Some entry)) = entry ∷ []
given_by {E} (Ok None) = []
given_by {E} (Err stop) = []

-- each record that was given has two bytes at least
abbrev pub IsCounted : Option RecordFault → ℕ → ℕ → ℕ → Type 0
IsCounted None line left total = 2 * line + left ≤ total
IsCounted (Some fault) line left total = Unit {0}

-- What is so of each reader: of the bytes that it has, the first were read, and no line feed is among the first after
-- them.
pub record IsReader (bytes : List ℕ) (start looked line : ℕ) (fault : Option RecordFault) (total : ℕ) : Type 0 where
  pub within : start ≤ length bytes
  pub no_line_feed : looked ≤ position_or_len is_line_feed (drop start bytes)
  pub counted : IsCounted fault line (length bytes - start) total
