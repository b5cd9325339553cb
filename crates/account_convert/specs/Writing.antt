-- The bytes that the records of an account are written as, one after another.
use Rattle.std.specs.Prelude.{◌≡◌, ℕ, ◌+◌, ◌==◌, ◌||◌, Bool, true, List, [], ◌∷◌, ◌++◌, map, All, if◌then◌else◌}
use Rattle.std.specs.List.{flat_map}
use Rattle.account_file.specs.declared.record.Record.{Record}
use Rattle.account_file.specs.declared.record.Record.TheVariants as record_of
use Rattle.account_file.specs.Binary.{HasBytes, record_bytes}
use Rattle.account_file.specs.Spelling.{IsWritable, record_line}
use Rattle.account_convert.specs.declared.dues.Due.{Due}
use Rattle.account_convert.specs.declared.binary_writer.BinaryWriter.{BinaryWriter}
use Rattle.account_convert.specs.declared.binary_writer.Numbered.{Numbered}
use Rattle.account_convert.specs.declared.binary_writer.Numbered.TheVariants.{Fact, Ban}
use Rattle.account_convert.specs.declared.text_writer.TextWriter.{TextWriter}
use Rattle.account_convert.specs.Conversions.{is_conclusion, without_drops}

-- the drop of a fact, or of a ban, of this number
abbrev pub drop_of : Numbered → ℕ → Record
drop_of Fact number = record_of.DropFact number
drop_of Ban number = record_of.DropBan number

-- of what is due in turn, the numbers in front that are due after this record
abbrev pub first_at : ℕ → List Due → List ℕ
first_at record_number [] = []
first_at record_number (due ∷ dues) =
    if due.record_number == record_number then due.number ∷ first_at record_number dues else []

-- of what is due in turn, what is left after this record
abbrev pub after_at : ℕ → List Due → List Due
after_at record_number [] = []
after_at record_number (due ∷ dues) =
    if due.record_number == record_number then after_at record_number dues else due ∷ dues

-- What is due in turn: facts, and bans, up to the conclusion.
pub record Queue : Type 0 where
  pub concluded : Bool
  pub facts : List Due
  pub bans : List Due

-- the drops that are due after a record of this number
abbrev pub drops_due : Queue → ℕ → Record → List Record
drops_due queue record_number entry =
    if queue.concluded || is_conclusion entry then []
    else (map record_of.DropFact (first_at record_number queue.facts)
    ++ map record_of.DropBan (first_at record_number queue.bans))

-- the queue after a record of this number; from the conclusion on nothing is taken from it
abbrev pub queue_after : Queue → ℕ → Record → Queue
queue_after queue record_number entry =
    if queue.concluded || is_conclusion entry then record { concluded = true; facts = queue.facts; bans = queue.bans }
    else record {
      concluded = queue.concluded;
      facts = after_at record_number queue.facts;
      bans = after_at record_number queue.bans;
    }

-- records, of which the first has this number, each with the drops that are due after it
abbrev pub written_from : Queue → ℕ → List Record → List Record
written_from queue record_number [] = []
written_from queue record_number (entry ∷ later) =
    entry ∷ drops_due queue record_number entry
    ++ written_from (queue_after queue record_number entry) (record_number + 1) later

-- the queue after records of which the first has this number
abbrev pub queue_from : Queue → ℕ → List Record → Queue
queue_from queue record_number [] = queue
queue_from queue record_number (entry ∷ later) =
    queue_from (queue_after queue record_number entry) (record_number + 1) later

-- which drops a writer has still before it
abbrev pub queue_of : BinaryWriter → Queue
queue_of writer = record { concluded = writer.concluded; facts = writer.facts; bans = writer.bans }

-- Records were written with the drops that were due.
pub record LeadToBytes (old : BinaryWriter) (records : List Record) (new : BinaryWriter) : Type 0 where
  pub queue : queue_of new ≡ queue_from (queue_of old) 1 records
  pub bytes : new.bytes.items ≡ old.bytes.items ++ flat_map record_bytes (written_from (queue_of old) 1 records)
  pub fit : All HasBytes (written_from (queue_of old) 1 records)

-- Records were written without drops.
pub record LeadToText (old : TextWriter) (records : List Record) (new : TextWriter) : Type 0 where
  pub bytes : new.bytes.items ≡ old.bytes.items ++ flat_map record_line (without_drops records)
  pub writable : All IsWritable (without_drops records)
