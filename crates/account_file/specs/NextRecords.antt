-- What the reader makes of the bytes that are left, for contracts of private functions; what it comes to is said in
-- `Accounts`.
use Rattle.std.specs.Prelude.{◌≡◌, ◌≢◌, ℕ, ◌+◌, ◌≤◌, Bool, true, false, List, [], ◌∷◌, ◌++◌, codes}
use Rattle.std.specs.Prelude.{length, drop, Option, None, Some, Result, Ok, Err, nat_lt, if◌then◌else◌}
use Rattle.std.specs.List.{before_first, position_or_len}
use Rattle.std.specs.Str.{bytes_eq}
use Rattle.text_core.specs.Bytes.{is_line_feed}
use Rattle.account_file.specs.declared.record.Record.{Record}
use Rattle.account_file.specs.declared.record.Record.TheVariants as record_of
use Rattle.account_file.specs.declared.fault.RecordFault.{RecordFault}
use Rattle.account_file.specs.declared.fault.RecordFault.TheVariants as fault
use Rattle.account_file.specs.declared.place.Place.{Place}
use Rattle.account_file.specs.declared.place.Place.TheVariants.{Start, Headed, Ended}
use Rattle.account_file.specs.declared.next_record.NextRecord.{NextRecord}
use Rattle.account_file.specs.declared.next_record.NextRecord.TheVariants.{Wait, Read, Refuse}
use Rattle.account_file.specs.Forms.{record_in}
use Rattle.account_file.specs.Words.{words_of}
use Rattle.account_file.specs.Order.{next_place}
use Rattle.byte_form.specs.Codes.{BeginsNone, BeginsWith}
use Rattle.account_bytes.specs.declared.entry.Entry.{Entry}
use Rattle.account_bytes.specs.declared.reading.EntryStop.{EntryStop}
use Rattle.account_bytes.specs.declared.reading.EntryStop.TheVariants as stop
use Rattle.account_bytes.specs.Entries.{EntryFits, FrameFits, IsMalformed, entry_bytes, frame_bytes}
use Rattle.account_file.specs.Binary.{HasBytes, is_binary, record_bytes, record_with}
use Rattle.account_file.specs.Reading.{Reading}
use Rattle.account_file.specs.declared.fault.FileStop.{FileStop}
use Rattle.account_file.specs.declared.fault.FileStop.TheVariants.{Fault, Memory}

-- what a line is: a record and where the account stands after it, or a fault
abbrev pub placed : Record → Option Place → Result (Record × Place) RecordFault
placed entry None = Err fault.Order
placed entry (Some place) = Ok (entry, place)

-- a record that was read, unless it may not stand where the account stands
abbrev pub in_place : Place → Result Record RecordFault → Result (Record × Place) RecordFault
in_place place (Ok entry) = placed entry (next_place place entry)
in_place place (Err fault) = Err fault

-- a line is read: the first one has to be the header's, and each other one a record's
abbrev pub line_at : Place → List ℕ → Result (Record × Place) RecordFault
line_at Start line = if bytes_eq line (codes "npnp 1") then Ok (record_of.Header, Headed) else Err fault.Header
line_at place line = in_place place (record_in (words_of line))

-- there is a whole line
abbrev pub has_line : List ℕ → Bool
has_line left = nat_lt (position_or_len is_line_feed left) (length left)

-- a good line is passed with its record, and any other is refused
abbrev pub next_from : ℕ → Result (Record × Place) RecordFault → NextRecord
next_from used (Ok found) = Read found.0 found.1 used
next_from used (Err fault) = Refuse fault

-- what is done at a whole line, and where the bytes end
abbrev pub next_at_line : Place → List ℕ → NextRecord
next_at_line Ended line = Refuse fault.Trailing
next_at_line place line = next_from (length line + 1) (line_at place line)

-- where no line is left, an account has to have ended
abbrev pub next_at_end : Place → List ℕ → NextRecord
next_at_end Ended [] = Wait
next_at_end Ended (byte ∷ left) = Refuse fault.Trailing
next_at_end place left = Refuse fault.Truncated

-- the next line is read; without a whole one the reader waits, or the bytes are at their end
abbrev pub next_of : List ℕ → Bool → Place → NextRecord
next_of left finished place =
    if has_line left then next_at_line place (before_first is_line_feed left)
    else if finished then next_at_end place left else Wait

-- what the bytes that are left say in version 2, where the account stands there

-- they begin with a record, after which the account stands there
pub record BeginsRecord (left : List ℕ) (place : Place) (entry : Record) (after : Place) (used : ℕ) : Type 0 where
  pub fits : HasBytes entry
  pub text_is : left ≡ record_bytes entry ++ drop used left
  pub place_is : next_place place entry ≡ Some after
  pub some_used : 2 ≤ used
  pub within : used ≤ length left

-- they begin with an entry that may not stand there
pub record BeginsMisplaced (left : List ℕ) (place : Place) : Type 0 where
  pub entry : Entry
  pub after : List ℕ
  pub begins : BeginsWith entry_bytes EntryFits left entry after
  pub no_place : next_place place (record_with entry) ≡ None

-- The account has begun, and hasn't ended.
pub record IsOpen (place : Place) : Type 0 where
  pub begun : place ≢ Start
  pub not_ended : place ≢ Ended

-- why a record is refused
abbrev pub IsRefused : List ℕ → Bool → Place → RecordFault → Type 0
IsRefused left finished place fault.Header = ⊥
IsRefused left finished place fault.Word = IsOpen place × IsMalformed left
IsRefused left finished place fault.Number = ⊥
IsRefused left finished place fault.Order = IsOpen place × BeginsMisplaced left place
IsRefused left finished place fault.Truncated = IsOpen place × (finished ≡ true) × BeginsNone frame_bytes FrameFits left
IsRefused left finished place fault.Trailing = (place ≡ Ended) × (left ≢ [])

-- why none is read yet: nothing is left after the end; or more may come, and no whole frame is left
abbrev pub Waits : List ℕ → Bool → Place → Type 0
Waits left finished Ended = left ≡ []
Waits left finished place = IsOpen place × (finished ≡ false) × BeginsNone frame_bytes FrameFits left

-- the reader waits for more of an entry, reads a record, or refuses what stands there
abbrev pub IsBinaryNext : List ℕ → Bool → Place → NextRecord → Type 0
IsBinaryNext left finished place Wait = Waits left finished place
IsBinaryNext left finished place (Read entry after used) = BeginsRecord left place entry after used
IsBinaryNext left finished place (Refuse fault) = IsRefused left finished place fault

-- Bytes begin with this entry, which has so many of them.
pub record IsFound (left : List ℕ) (entry : Entry) (used : ℕ) : Type 0 where
  pub begins : BeginsWith entry_bytes EntryFits left entry (drop used left)
  pub within : used ≤ length left

-- the record of the entry that bytes begin with, and how many bytes it has; or why there is none
abbrev pub EntryFound : List ℕ → Result (Record × ℕ) EntryStop → Type 0
EntryFound left (Ok found) = (entry : Entry) × (found.0 ≡ record_with entry) × IsFound left entry found.1
EntryFound left (Err stop.Cut) = BeginsNone frame_bytes FrameFits left
EntryFound left (Err stop.Malformed) = IsMalformed left
EntryFound left (Err stop.Memory) = Unit {0}

-- a record that was read, unless it may not stand where the account stands
abbrev pub entry_next : Record → ℕ → Option Place → NextRecord
entry_next entry used None = Refuse fault.Order
entry_next entry used (Some place) = Read entry place used

-- an entry that isn't whole is waited for, while more bytes may come
abbrev pub cut_off : Bool → NextRecord
cut_off finished = if finished then Refuse fault.Truncated else Wait

-- what is done in either version
abbrev pub IsNext : Bool → List ℕ → Bool → Place → NextRecord → Type 0
IsNext false left finished place next = next ≡ next_of left finished place
IsNext true left finished place next = IsBinaryNext left finished place next

-- or memory ran out
abbrev pub FindsNext : Bool → List ℕ → Bool → Place → Result NextRecord FileStop → Type 0
FindsNext binary left finished place (Ok next) = IsNext binary left finished place next
FindsNext binary left finished place (Err (Fault fault)) = ⊥
FindsNext binary left finished place (Err Memory) = Unit {0}

-- the version, by the first bytes where no record was given
abbrev pub form_at : Place → List ℕ → Bool → Bool
form_at Start left binary = is_binary left
form_at place left binary = binary

-- in how many of the bytes that are left a line feed was sought, where a reader waits
abbrev pub looked_after : Bool → ℕ → ℕ
looked_after binary count = if binary then 0 else count

-- the version once a record was read
abbrev pub known_version : Bool → Option ℕ
known_version true = Some 2
known_version false = Some 1

-- whether an account goes on in version 2
abbrev pub form_of : Reading → Bool
form_of reading = form_at reading.place reading.left reading.binary

-- what it answers, and leaves
abbrev pub answer_by : NextRecord → Result (Option Record) RecordFault
answer_by Wait = Ok None
answer_by (Read entry place used) = Ok (Some entry)
answer_by (Refuse fault) = Err fault

-- how far an account is read after a step
abbrev pub reading_after : Reading → Bool → NextRecord → Reading
reading_after reading binary Wait = reading
reading_after reading binary (Read entry place used) =
    record reading { left = drop used reading.left; line = reading.line + 1; place = place; binary = binary }
reading_after reading binary (Refuse fault) = record reading { line = reading.line + 1; fault = Some fault }

-- One step was taken: this answer was given, and the account is read so far.
pub record StepsOn (old : Reading) (answer : Result (Option Record) RecordFault) (new : Reading) : Type 0 where
  pub next : NextRecord
  pub next_is : IsNext (form_of old) old.left old.finished old.place next
  pub answer_is : answer ≡ answer_by next
  pub new_is : new ≡ reading_after old (form_of old) next

-- after a fault it is given again
abbrev pub StepsFrom : Option RecordFault → Reading → Result (Option Record) FileStop → Reading → Type 0
StepsFrom (Some wrong) old result new = (result ≡ Err (Fault wrong)) × (new ≡ old)
StepsFrom None old (Ok found) new = StepsOn old (Ok found) new
StepsFrom None old (Err (Fault wrong)) new = StepsOn old (Err wrong) new
StepsFrom None old (Err Memory) new = new ≡ old
