-- The records of an account of version 2 in bytes (this project's binary format): eight bytes in place of the header's
-- line, and then entries.
use Rattle.std.specs.Prelude.{ℕ, Bool, List, codes, nat_eq, Option, None, Some}
use Rattle.std.specs.List.{starts_with}
use Rattle.account_bytes.specs.declared.entry.Entry.{Entry}
use Rattle.account_bytes.specs.declared.entry.Entry.TheVariants as entry_of
use Rattle.account_bytes.specs.Entries.{EntryFits, entry_bytes}
use Rattle.account_file.specs.declared.record.Record.{Record}
use Rattle.account_file.specs.declared.record.Record.TheVariants as record_of

-- what an account of version 2 begins with
abbrev pub signature : List ℕ
signature = codes "NPNPACC2"

-- An account is of version 2 where it begins so; every other one is of version 1.
abbrev pub is_binary : List ℕ → Bool
is_binary bytes = starts_with nat_eq bytes signature

-- the entry of a record: the header has none
abbrev pub entry_in : Record → Option Entry
entry_in record_of.Header = None
entry_in (record_of.Fact head) = Some (entry_of.Fact head)
entry_in (record_of.Line line) = Some (entry_of.Line line)
entry_in (record_of.Ban ban) = Some (entry_of.Ban ban)
entry_in (record_of.Conclusion conclusion) = Some (entry_of.Conclusion conclusion)
entry_in (record_of.DropFact fact) = Some (entry_of.DropFact fact)
entry_in (record_of.DropBan ban) = Some (entry_of.DropBan ban)
entry_in record_of.End = Some entry_of.End

-- the record of an entry
abbrev pub record_with : Entry → Record
record_with (entry_of.Fact head) = record_of.Fact head
record_with (entry_of.Line line) = record_of.Line line
record_with (entry_of.Ban ban) = record_of.Ban ban
record_with (entry_of.Conclusion conclusion) = record_of.Conclusion conclusion
record_with (entry_of.DropFact fact) = record_of.DropFact fact
record_with (entry_of.DropBan ban) = record_of.DropBan ban
record_with entry_of.End = record_of.End

-- the bytes of a record, and which records have bytes: ports have 32 bits, and all other numbers 64
abbrev pub bytes_by : Option Entry → List ℕ
bytes_by None = signature
bytes_by (Some entry) = entry_bytes entry

-- the header always can be written, and an entry where its numbers have room
abbrev pub FitsBy : Option Entry → Type 0
FitsBy None = Unit {0}
FitsBy (Some entry) = EntryFits entry

-- a record as it stands in an account of version 2
abbrev pub record_bytes : Record → List ℕ
record_bytes entry = bytes_by (entry_in entry)

-- a record can be written in version 2
abbrev pub HasBytes : Record → Type 0
HasBytes entry = FitsBy (entry_in entry)
