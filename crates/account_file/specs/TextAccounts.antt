-- An account of version 1 as its whole bytes, which are text: the records of its lines, and its first fault of form
-- (this project's format).
use Rattle.std.specs.Prelude.{◌≡◌, ◌≢◌, ℕ, ◌+◌, ◌<◌, ◌≤◌, ◌^◌, Bool, true, false, List, [], ◌∷◌, ◌++◌, codes, length, take, slice_index_or, Option, None, Some}
use Rattle.std.specs.Prelude.{Result, Ok, Err}
use Rattle.std.specs.Fmt.{decimal}
use Rattle.std.specs.List.{AllZip}
use Rattle.text_core.specs.Numbers.{is_numeral}
use Rattle.account_file.specs.declared.record.Record.{Record}
use Rattle.account_file.specs.declared.fault.RecordFault.{RecordFault}
use Rattle.account_file.specs.declared.fault.RecordFault.TheVariants as fault
use Rattle.account_file.specs.Words.{words_of}
use Rattle.account_file.specs.Lines.{whole_lines, after_lines}
use Rattle.account_file.specs.Order.{AreInOrder, MayStand, HaveEnded}
use Rattle.account_file.specs.Spelling.{IsWritable, record_line}

-- A line has the form of a record where it is the one spelling of it.
abbrev pub HasForm : List ℕ → Record → Type 0
HasForm line entry = IsWritable entry × (record_line entry ≡ line ++ 10 ∷ [])

-- Lines are these records: each has its record's form, and each record may stand where it does.
pub record AreRecords (lines : List (List ℕ)) (records : List Record) : Type 0 where
  pub form : AllZip HasForm lines records
  pub order : AreInOrder records

-- Records stand after the header, and their account hasn't ended.
pub record AreUnderWay (records : List Record) : Type 0 where
  pub begun : records ≢ []
  pub not_ended : HaveEnded records → ⊥

-- Words begin the line of some record.
pub record BeginsLine (words : List (List ℕ)) : Type 0 where
  pub line : List ℕ
  pub entry : Record
  pub form : HasForm line entry
  pub after : List (List ℕ)
  pub words_are : words_of line ≡ words ++ after

-- The first word of a line with which its words begin no record's line is digits, where any number may stand.
pub record HasBadNumber (line : List ℕ) : Type 0 where
  pub before : List (List ℕ)
  pub word : List ℕ
  pub after : List (List ℕ)
  pub words_are : words_of line ≡ before ++ word ∷ after
  pub digits : is_numeral word ≡ true
  pub begins_none : BeginsLine (before ++ word ∷ []) → ⊥
  pub number_fits : (n : ℕ) → n < 2 ^ 32 → BeginsLine (before ++ decimal n ∷ [])

-- A line has no record's form, and not for a bad number.
pub record HasBadWord (line : List ℕ) : Type 0 where
  pub no_record : (entry : Record) → HasForm line entry → ⊥
  pub no_number : HasBadNumber line → ⊥

-- a line has the form of a record that may not stand after these
pub record IsOutOfOrder (before : List Record) (line : List ℕ) : Type 0 where
  pub entry : Record
  pub form : HasForm line entry
  pub out_of_order : MayStand before entry → ⊥

-- what is wrong with a whole line after records
abbrev pub LineFault : List Record → List ℕ → RecordFault → Type 0
LineFault before line fault.Header = (before ≡ []) × (line ≢ codes "npnp 1")
LineFault before line fault.Word = AreUnderWay before × HasBadWord line
LineFault before line fault.Number = AreUnderWay before × HasBadNumber line
LineFault before line fault.Order = AreUnderWay before × IsOutOfOrder before line
LineFault before line fault.Truncated = ⊥
LineFault before line fault.Trailing = HaveEnded before

-- what is wrong where no whole line is left after records, but this rest
abbrev pub EndFault : List Record → List ℕ → RecordFault → Type 0
EndFault before rest fault.Truncated = HaveEnded before → ⊥
EndFault before rest fault.Trailing = HaveEnded before × (rest ≢ [])
EndFault before rest other = ⊥

-- The first fault of form of a text is after the lines of these records: at the next line, or where the whole lines
-- end.
pub record HasTextFault (bytes : List ℕ) (before : List Record) (fault : RecordFault) : Type 0 where
  pub records : AreRecords (take (length before) (whole_lines bytes)) before
  pub at_line : length before < length (whole_lines bytes)
      → LineFault before (slice_index_or (whole_lines bytes) (length before) []) fault
  pub at_end : length (whole_lines bytes) ≤ length before → EndFault before (after_lines bytes) fault

-- A text has no fault of form: its lines are these records, the last is the end, and nothing stands after.
pub record IsTextAccount (bytes : List ℕ) (records : List Record) : Type 0 where
  pub records_are : AreRecords (whole_lines bytes) records
  pub ended : HaveEnded records
  pub nothing_after : after_lines bytes ≡ []

-- The next record of a text after these: the next line has its form, and it may stand there.
abbrev pub IsNextLine : List ℕ → List Record → Record → Type 0
IsNextLine bytes before entry = AreRecords (take (length before + 1) (whole_lines bytes)) (before ++ entry ∷ [])

-- What a text says after the lines of these records: the next record, nothing, or the first fault. Where more bytes
-- may come, what stands after the last line feed says nothing yet.
abbrev pub SaysLine : List ℕ → Bool → List Record → Result (Option Record) RecordFault → Type 0
SaysLine bytes finished before (Ok (Some entry)) = IsNextLine bytes before entry
SaysLine bytes true before (Ok None) = IsTextAccount bytes before
SaysLine bytes false before (Ok None) = AreRecords (whole_lines bytes) before
SaysLine bytes true before (Err fault) = HasTextFault bytes before fault
SaysLine bytes false before (Err fault) = HasTextFault bytes before fault × (length before < length (whole_lines bytes))
