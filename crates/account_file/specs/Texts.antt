-- Answers that may be out of memory.
use Rattle.std.specs.Prelude.{◌≡◌, ℕ, ◌<◌, List, [], ◌++◌, length, Option, None, Some, Result, Ok, Err}
use Rattle.std.specs.Borrow.{Bor}
use Rattle.account_file.specs.declared.fault.RecordFault.{RecordFault}
use Rattle.account_file.specs.declared.next_record.NextRecord.{NextRecord}
use Rattle.account_file.specs.declared.fault.FileStop.{FileStop}
use Rattle.account_file.specs.declared.fault.FileStop.TheVariants.{Fault, Memory}
use Rattle.account_file.specs.Forms.{Parsed, digits_after, list_by, with_item}

-- the answer is what is meant, or memory ran out
abbrev pub Answers : {X Y : Type 0} → (X → Y) → Result X FileStop → Result Y RecordFault → Type 0
Answers {X} {Y} view (Ok x) meant = meant ≡ Ok (view x)
Answers {X} {Y} view (Err (Fault fault)) meant = meant ≡ Err fault
Answers {X} {Y} view (Err Memory) meant = Unit {0}

-- the part of a line is what is meant, with these words after it
abbrev pub Gives : {X : Type 0} → Result X RecordFault → List (List ℕ) → Parsed X → Type 0
Gives {X} (Ok x) words meant = meant ≡ Ok (x, words)
Gives {X} (Err fault) words meant = meant ≡ Err fault

-- the same, or memory ran out
abbrev pub GivesOrStops : {X : Type 0} → Result X FileStop → List (List ℕ) → Parsed X → Type 0
GivesOrStops {X} (Ok x) words meant = meant ≡ Ok (x, words)
GivesOrStops {X} (Err (Fault fault)) words meant = meant ≡ Err fault
GivesOrStops {X} (Err Memory) words meant = Unit {0}

-- what the next word of a list leaves of the list
abbrev pub GivesItem : {X : Type 0} → (List ℕ → Result X RecordFault)
    → Result (Option X) RecordFault → List (List ℕ) → List (List ℕ) → Type 0
GivesItem {X} read (Ok None) old new = list_by read old ≡ Ok ([], new)
GivesItem {X} read (Ok (Some x)) old new =
    (list_by read old ≡ with_item (Ok x) (list_by read new)) × (length new < length old)
GivesItem {X} read (Err fault) old new = list_by read old ≡ Err fault

-- reading the digits after `=` gives this result
abbrev pub GivesDigits : Result (Bor (List ℕ)) RecordFault → List ℕ → Type 0
GivesDigits (Ok digits) word = digits_after word ≡ Ok digits.now
GivesDigits (Err fault) word = digits_after word ≡ Err fault

-- what was read, in front of the rest of a list
abbrev pub in_front : {X : Type 0} → List X → Parsed (List X) → Parsed (List X)
in_front {X} front (Ok rest) = Ok (front ++ rest.0, rest.1)
in_front {X} front (Err fault) = Err fault

-- the next record is what is meant, or memory ran out
abbrev pub AnswersNext : Result NextRecord FileStop → NextRecord → Type 0
AnswersNext (Ok next) meant = next ≡ meant
AnswersNext (Err (Fault fault)) meant = ⊥
AnswersNext (Err Memory) meant = Unit {0}

-- the answer is what is said, or memory ran out
abbrev pub Says : {X : Type 0} → Result X FileStop → (Result X RecordFault → Type 0) → Type 0
Says {X} (Ok x) IsSaid = IsSaid (Ok x)
Says {X} (Err (Fault fault)) IsSaid = IsSaid (Err fault)
Says {X} (Err Memory) IsSaid = Unit {0}

-- what was read of digits, in front of the rest of them
abbrev pub digits_in_front : {X : Type 0} → List X → Result (List X) RecordFault → Result (List X) RecordFault
digits_in_front {X} front (Ok rest) = Ok (front ++ rest)
digits_in_front {X} front (Err fault) = Err fault
