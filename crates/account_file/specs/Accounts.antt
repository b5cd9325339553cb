-- An account as its whole bytes, of either version (this project's format): its records, and its first fault of form.
-- The first eight bytes say which.
use Rattle.std.specs.Prelude.{ℕ, Bool, true, false, List, [], ◌∷◌, ◌++◌, length, take, nat_eq, Option, None, Some, Result, if◌then◌else◌}
use Rattle.std.specs.List.{starts_with}
use Rattle.account_file.specs.declared.record.Record.{Record}
use Rattle.account_file.specs.declared.fault.RecordFault.{RecordFault}
use Rattle.account_file.specs.Lines.{whole_lines}
use Rattle.account_file.specs.TextAccounts.{AreRecords, HasTextFault, IsNextLine, IsTextAccount, SaysLine}
use Rattle.account_file.specs.Binary.{is_binary, signature}
use Rattle.account_file.specs.BinaryAccounts.{AreAllEntries, AreFirstEntries, HasBinaryFault, IsBinaryAccount, SaysEntry}

-- each by whether bytes are of version 2

-- these are the first records of an account, as lines, or as entries in version 2
abbrev pub AreFirstBy : Bool → List ℕ → List Record → Type 0
AreFirstBy false bytes records = AreRecords (take (length records) (whole_lines bytes)) records
AreFirstBy true bytes records = AreFirstEntries bytes records

-- these are all of an account's whole records, as lines, or as entries in version 2
abbrev pub AreAllBy : Bool → List ℕ → List Record → Type 0
AreAllBy false bytes records = AreRecords (whole_lines bytes) records
AreAllBy true bytes records = AreAllEntries bytes records

-- after these records an account has its first fault of form, in a line, or in an entry
abbrev pub HasFaultBy : Bool → List ℕ → List Record → RecordFault → Type 0
HasFaultBy false bytes before fault = HasTextFault bytes before fault
HasFaultBy true bytes before fault = HasBinaryFault bytes before fault

-- an account is these records and nothing else, as lines, or as entries in version 2
abbrev pub IsAccountBy : Bool → List ℕ → List Record → Type 0
IsAccountBy false bytes records = IsTextAccount bytes records
IsAccountBy true bytes records = IsBinaryAccount bytes records

-- after these records stands this one, as a line, or as an entry
abbrev pub IsNextBy : Bool → List ℕ → List Record → Record → Type 0
IsNextBy false bytes before entry = IsNextLine bytes before entry
IsNextBy true bytes before entry = AreFirstEntries bytes (before ++ entry ∷ [])

-- what an account says after these records, by its next line, or by its next entry
abbrev pub SaysBy : Bool → List ℕ → Bool → List Record → Result (Option Record) RecordFault → Type 0
SaysBy false bytes finished before says = SaysLine bytes finished before says
SaysBy true bytes finished before says = SaysEntry bytes finished before says

-- the first records of bytes are these
abbrev pub AreFirst : List ℕ → List Record → Type 0
AreFirst bytes records = AreFirstBy (is_binary bytes) bytes records

-- all whole records of bytes are these
abbrev pub AreAll : List ℕ → List Record → Type 0
AreAll bytes records = AreAllBy (is_binary bytes) bytes records

-- the first fault of form of bytes is after these records
abbrev pub HasFormFault : List ℕ → List Record → RecordFault → Type 0
HasFormFault bytes before fault = HasFaultBy (is_binary bytes) bytes before fault

-- bytes have no fault of form: they are these records, the last is the end, and nothing stands after
abbrev pub IsAccountOf : List ℕ → List Record → Type 0
IsAccountOf bytes records = IsAccountBy (is_binary bytes) bytes records

-- the next record of bytes after these: it has its form, and may stand there
abbrev pub IsNextRecord : List ℕ → List Record → Record → Type 0
IsNextRecord bytes before entry = IsNextBy (is_binary bytes) bytes before entry

-- what bytes say after these records: the next one, nothing, or the first fault
abbrev pub SaysNext : List ℕ → Bool → List Record → Result (Option Record) RecordFault → Type 0
SaysNext bytes finished before says = SaysBy (is_binary bytes) bytes finished before says

-- bytes are a first part of the signature
abbrev pub may_be_binary : List ℕ → Bool
may_be_binary bytes = starts_with nat_eq signature bytes

-- The version of an account of which these bytes came, and perhaps more will: a part of the signature doesn't say it.
abbrev pub version_by : Bool → Bool → Option ℕ
version_by true undecided = Some 2
version_by false true = None
version_by false false = Some 1

-- the version of an account, as far as the bytes that came tell it
abbrev pub version_of : List ℕ → Bool → Option ℕ
version_of bytes finished = version_by (is_binary bytes) (if finished then false else may_be_binary bytes)
