-- An account of version 2 as its whole bytes: its records, one after the other, and its first fault of form (this
-- project's binary format).
use Rattle.std.specs.Prelude.{◌≡◌, ◌≢◌, ◌⊎◌, ℕ, Bool, true, false, List, [], ◌∷◌, ◌++◌, Option, None, Some, Result, Ok, Err}
use Rattle.byte_form.specs.Codes.{BeginsNone, BeginsWith, HasItems}
use Rattle.account_bytes.specs.declared.entry.Entry.{Entry}
use Rattle.account_bytes.specs.Entries.{EntryFits, FrameFits, IsMalformed, entry_bytes, frame_bytes}
use Rattle.account_file.specs.declared.record.Record.{Record}
use Rattle.account_file.specs.declared.fault.RecordFault.{RecordFault}
use Rattle.account_file.specs.declared.fault.RecordFault.TheVariants as fault
use Rattle.account_file.specs.Order.{AreInOrder, MayStand, HaveEnded}
use Rattle.account_file.specs.TextAccounts.{AreUnderWay}
use Rattle.account_file.specs.Binary.{HasBytes, record_bytes, record_with}

-- Bytes begin with these records, each of which may stand where it does, and the others are left.
pub record AreEntries (bytes : List ℕ) (records : List Record) (left : List ℕ) : Type 0 where
  pub items : HasItems record_bytes HasBytes bytes records left
  pub order : AreInOrder records

-- bytes begin with an entry that may not stand after these records
pub record IsMisplaced (before : List Record) (left : List ℕ) : Type 0 where
  pub entry : Entry
  pub after : List ℕ
  pub begins : BeginsWith entry_bytes EntryFits left entry after
  pub out_of_order : MayStand before (record_with entry) → ⊥

-- What is wrong after records, by the bytes that are left: they end before the next record does; they begin with a
-- whole frame that is no entry's, or with an entry that may not stand there; or the end stands before them.
abbrev pub BinaryFault : List Record → List ℕ → RecordFault → Type 0
BinaryFault before left fault.Header = ⊥
BinaryFault before left fault.Word = AreUnderWay before × IsMalformed left
BinaryFault before left fault.Number = ⊥
BinaryFault before left fault.Order = AreUnderWay before × IsMisplaced before left
BinaryFault before left fault.Truncated = AreUnderWay before × BeginsNone frame_bytes FrameFits left
BinaryFault before left fault.Trailing = HaveEnded before × (left ≢ [])

-- The first fault of form is after these records.
pub record HasBinaryFault (bytes : List ℕ) (before : List Record) (fault : RecordFault) : Type 0 where
  pub left : List ℕ
  pub records : AreEntries bytes before left
  pub fault_is : BinaryFault before left fault

-- No fault of form: the bytes are these records, and the last is the end.
pub record IsBinaryAccount (bytes : List ℕ) (records : List Record) : Type 0 where
  pub records_are : AreEntries bytes records []
  pub ended : HaveEnded records

-- of what is left after records, no more is a whole record: nothing is left after the end, or no whole frame before it
abbrev pub NoneIsWhole : List Record → List ℕ → Type 0
NoneIsWhole records left = (HaveEnded records × (left ≡ [])) ⊎ (AreUnderWay records × BeginsNone frame_bytes FrameFits left)

-- all whole records of bytes are these
pub record AreAllEntries (bytes : List ℕ) (records : List Record) : Type 0 where
  pub left : List ℕ
  pub records_are : AreEntries bytes records left
  pub no_more : NoneIsWhole records left

-- the first records of bytes are these
pub record AreFirstEntries (bytes : List ℕ) (records : List Record) : Type 0 where
  pub left : List ℕ
  pub records_are : AreEntries bytes records left

-- What bytes say after these records: the next record, nothing, or the first fault. Where more bytes may come, a record
-- that isn't whole says nothing yet.
abbrev pub SaysEntry : List ℕ → Bool → List Record → Result (Option Record) RecordFault → Type 0
SaysEntry bytes finished before (Ok (Some entry)) = AreFirstEntries bytes (before ++ entry ∷ [])
SaysEntry bytes true before (Ok None) = IsBinaryAccount bytes before
SaysEntry bytes false before (Ok None) = AreAllEntries bytes before
SaysEntry bytes true before (Err wrong) = HasBinaryFault bytes before wrong
SaysEntry bytes false before (Err wrong) = HasBinaryFault bytes before wrong × (wrong ≢ fault.Truncated)
