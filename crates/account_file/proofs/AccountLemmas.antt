-- A text that begins with the lines of records: its lines, and what the next line says.
use Rattle.std.proofs.Common.{◌≡◌, ◌≢◌, ℕ, suc, ◌+◌, Bool, true, false, cond, codes, List, [], ◌∷◌, ◌++◌, length, map, All, Option, Some, None, IsSome, Result, Ok, Err, refl, sym, ap, subst, ◌∙◌, inl, inr, append_assoc}
use Rattle.std.specs.List.{AllZip, flat_map}
use Rattle.std.specs.Str.{bytes_eq}
use Rattle.std.proofs.lemmas.Bool.{false≢true}
use Rattle.std.proofs.lemmas.List.Elements.{All-head, All-tail}
use Rattle.std.proofs.lemmas.Slice.Eq.{bytes_eq-Decides}
use Rattle.account_file.specs.declared.record.Record.{Record}
use Rattle.account_file.specs.declared.record.Record.TheVariants as record_of
use Rattle.account_file.specs.declared.fault.RecordFault.{RecordFault}
use Rattle.account_file.specs.declared.fault.RecordFault.TheVariants as fault
use Rattle.account_file.specs.declared.place.Place.{Place}
use Rattle.account_file.specs.declared.place.Place.TheVariants.{Start, Headed, Ended}
use Rattle.account_file.specs.declared.next_record.NextRecord.{NextRecord}
use Rattle.account_file.specs.declared.next_record.NextRecord.TheVariants.{Wait, Read, Refuse}
use Rattle.account_file.specs.Forms.{record_in}
use Rattle.account_file.specs.Words.{words_of}
use Rattle.account_file.specs.Lines.{whole_lines, after_lines}
use Rattle.account_file.specs.Order.{next_place, place_after}
use Rattle.account_file.specs.TextAccounts.{HasForm, AreUnderWay, LineFault}
use Rattle.account_file.specs.Spelling.{IsWritable, line_text, record_line}
use Rattle.account_file.specs.NextRecords.{in_place, placed, next_from, next_at_line}
use Rattle.account_file.proofs.BadWordLemmas.{bad_number_found, bad_number_read, bad_word_found, bad_word_read, bad_words}
use Rattle.account_file.proofs.LineLemmas.{lines_first, after_first_line}
use Rattle.account_file.proofs.OrderLemmas.{place_after_last, at_start}
use Rattle.account_file.proofs.RecordLemmas.{line_text_is_line, read_is_written}

-- the lines of records, without their line feeds
abbrev pub texts_of : List Record → List (List ℕ)
texts_of records = map line_text records

text_first : (entry : Record) (rest left : List ℕ) → (record_line entry ++ rest) ++ left ≡ line_text entry ++ 10 ∷ (rest ++ left)
text_first entry rest left =
    ap (λ l. l ++ left) (append_assoc (line_text entry) (10 ∷ []) rest)
    ∙ append_assoc (line_text entry) (10 ∷ rest) left

pub lines_of_records : (records : List Record) (left : List ℕ) → All IsWritable records → whole_lines (flat_map record_line records ++ left) ≡ texts_of records ++ whole_lines left
lines_of_records [] left w = refl
lines_of_records (entry ∷ records) left w =
    ap whole_lines (text_first entry (flat_map record_line records) left)
    ∙ lines_first (line_text entry) (flat_map record_line records ++ left) (line_text_is_line entry (All-head IsWritable entry records w))
    ∙ ap (λ l. line_text entry ∷ l) (lines_of_records records left (All-tail IsWritable entry records w))

pub after_records : (records : List Record) (left : List ℕ) → All IsWritable records → after_lines (flat_map record_line records ++ left) ≡ after_lines left
after_records [] left w = refl
after_records (entry ∷ records) left w =
    ap after_lines (text_first entry (flat_map record_line records) left)
    ∙ after_first_line (line_text entry) (flat_map record_line records ++ left) (line_text_is_line entry (All-head IsWritable entry records w))
    ∙ after_records records left (All-tail IsWritable entry records w)

pub have_forms : (records : List Record) → All IsWritable records → AllZip HasForm (texts_of records) records
have_forms [] w = tt
have_forms (entry ∷ records) w = ((All-head IsWritable entry records w, refl), have_forms records (All-tail IsWritable entry records w))

pub length_texts : (records : List Record) → length (texts_of records) ≡ length records
length_texts [] = refl
length_texts (entry ∷ records) = ap suc (length_texts records)

-- what is said of a line by what is done at it
abbrev pub FaultThere : Place → List ℕ → RecordFault → Type 0
FaultThere place line fault.Header = (place ≡ Start) × (line ≢ codes "npnp 1")
FaultThere place line fault.Word = (place ≢ Start) × (place ≢ Ended) × (record_in (words_of line) ≡ Err fault.Word)
FaultThere place line fault.Number = (place ≢ Start) × (place ≢ Ended) × (record_in (words_of line) ≡ Err fault.Number)
FaultThere place line fault.Order = (place ≢ Start) × (place ≢ Ended) × ((entry : Record) × HasForm line entry × (next_place place entry ≡ None))
FaultThere place line fault.Truncated = ⊥
FaultThere place line fault.Trailing = place ≡ Ended

abbrev pub NextSays : Place → List ℕ → NextRecord → Type 0
NextSays place line Wait = ⊥
NextSays place line (Read entry after used) = HasForm line entry × (next_place place entry ≡ Some after) × (used ≡ length line + 1)
NextSays place line (Refuse fault) = FaultThere place line fault

header_says : (line : List ℕ) → NextSays Start line (next_at_line Start line)
header_says line = by (bytes_eq line (codes "npnp 1")) refl
  where
    by : (b : Bool) → bytes_eq line (codes "npnp 1") ≡ b → NextSays Start line (next_from (length line + 1) (cond b (Ok (record_of.Header, Headed)) (Err fault.Header)))
    by true e = let same = (bytes_eq-Decides line (codes "npnp 1")).0 e in ((tt, ap (λ l. l ++ 10 ∷ []) (sym same)), refl, refl)
    by false e = (refl, λ same. let yes = (bytes_eq-Decides line (codes "npnp 1")).1 same in let no : true ≡ false = sym yes ∙ e in cc)

later_says : (place : Place) (line : List ℕ) → place ≢ Start → place ≢ Ended → (found : Result Record RecordFault) → record_in (words_of line) ≡ found
    → NextSays place line (next_from (length line + 1) (in_place place found))
later_says place line later open' (Err fault) e = elim (bad_words (words_of line) fault e) [
  | inl word ↦ subst (λ f. FaultThere place line f) (sym word) (later, open', e ∙ ap Err word)
  | inr number ↦ subst (λ f. FaultThere place line f) (sym number) (later, open', e ∙ ap Err number)
]
later_says place line later open' (Ok entry) e = by (next_place place entry) refl
  where
    form : HasForm line entry
    form = let found = read_is_written line entry e in (found.1, found.0)

    by : (p : Option Place) → next_place place entry ≡ p → NextSays place line (next_from (length line + 1) (placed entry p))
    by None is = (later, open', (entry, form, is))
    by (Some after) is = (form, is, refl)

pub next_at_line_says : (place : Place) (line : List ℕ) → NextSays place line (next_at_line place line)
next_at_line_says Start line = header_says line
next_at_line_says Ended line = refl
next_at_line_says place line = later_says place line (λ e. cc) (λ e. cc) (record_in (words_of line)) refl

-- the fault of a line by where the account stands, and by the records before it
pub fault_there : (before : List Record) (place : Place) (line : List ℕ) (fault : RecordFault) → place_after before ≡ Some place → LineFault before line fault → FaultThere place line fault
fault_there before place line fault.Header at' h = (let e : Some Start ≡ Some place = sym (ap place_after h.0) ∙ at' in cc, h.1)
fault_there before place line fault.Word at' h = (λ e. h.0.begun (at_start before (at' ∙ ap Some e)), λ e. h.0.not_ended (at' ∙ ap Some e), bad_word_read line h.1)
fault_there before place line fault.Number at' h = (λ e. h.0.begun (at_start before (at' ∙ ap Some e)), λ e. h.0.not_ended (at' ∙ ap Some e), bad_number_read line h.1)
fault_there before place line fault.Order at' h =
    (λ e. h.0.begun (at_start before (at' ∙ ap Some e)), λ e. h.0.not_ended (at' ∙ ap Some e), (h.1.entry, h.1.form, none (next_place place h.1.entry) refl))
  where
    none : (p : Option Place) → next_place place h.1.entry ≡ p → p ≡ None
    none None e = refl
    none (Some after) e = absurd (h.1.out_of_order (subst IsSome (sym (place_after_last before h.1.entry place at' ∙ e)) refl))
fault_there before place line fault.Truncated at' h = absurd h
fault_there before place line fault.Trailing at' h = let e : Some place ≡ Some Ended = sym at' ∙ h in cc

under_way : (before : List Record) (place : Place) → place_after before ≡ Some place → place ≢ Start → place ≢ Ended → AreUnderWay before
under_way before place at' later open' = record {
  begun = λ e. later (let s : Some Start ≡ Some place = sym (ap place_after e) ∙ at' in cc);
  not_ended = λ ended. open' (let s : Some place ≡ Some Ended = sym at' ∙ ended in cc);
}

pub line_fault : (before : List Record) (place : Place) (line : List ℕ) (fault : RecordFault) → place_after before ≡ Some place → FaultThere place line fault → LineFault before line fault
line_fault before place line fault.Header at' h = (at_start before (at' ∙ ap Some h.0), h.1)
line_fault before place line fault.Word at' h = (under_way before place at' h.0 h.1, bad_word_found line h.2)
line_fault before place line fault.Number at' h = (under_way before place at' h.0 h.1, bad_number_found line h.2)
line_fault before place line fault.Order at' h = (
  under_way before place at' h.0 h.1,
  record {
    entry = h.2.0;
    form = h.2.1;
    out_of_order = λ may. false≢true (subst IsSome (place_after_last before h.2.0 place at' ∙ h.2.2) may);
  },
)
line_fault before place line fault.Truncated at' h = absurd h
line_fault before place line fault.Trailing at' h = at' ∙ ap Some h
