-- What the next record of version 2, or the first fault, says of the bytes, and what is left after it.
use Rattle.std.proofs.Common.{◌≡◌, ◌≢◌, ℕ, ◌+◌, ◌-◌, ◌≤◌, Bool, true, false, List, [], ◌∷◌, ◌++◌, length, drop, Option, None, Some, IsSome, Result, Ok, Err, refl, sym, ap, subst, ◌∙◌, arith, inl, inr, append_assoc, length-append, length-drop}
use Rattle.std.proofs.Math.Seq.{drop-append_seam}
use Rattle.std.proofs.lemmas.Bool.{false≢true}
use Rattle.std.proofs.lemmas.Bool.Decides.{Decides-eqb}
use Rattle.std.proofs.lemmas.Slice.Eq.{starts_is}
use Rattle.std.specs.Result.{IsErrAnd}
use Rattle.byte_form.specs.Codes.{BeginsWith, number_bytes}
use Rattle.byteorder.specs.Numbers.{length-bytes_high_first}
use Rattle.account_bytes.specs.declared.entry.Entry.{Entry}
use Rattle.account_bytes.specs.declared.reading.EntryStop.{EntryStop}
use Rattle.account_bytes.specs.Entries.{EntryFits, ReadsEntry, entry_body, entry_bytes}
use Rattle.account_bytes.specs.declared.reading.EntryStop.TheVariants as stop
use Rattle.account_file.specs.declared.record.Record.{Record}
use Rattle.account_file.specs.declared.record.Record.TheVariants as record_of
use Rattle.account_file.specs.declared.fault.RecordFault.{RecordFault}
use Rattle.account_file.specs.declared.fault.RecordFault.TheVariants as fault
use Rattle.account_file.specs.declared.place.Place.{Place}
use Rattle.account_file.specs.declared.place.Place.TheVariants.{Start, Headed, Ended}
use Rattle.account_file.specs.declared.next_record.NextRecord.{NextRecord}
use Rattle.account_file.specs.declared.next_record.NextRecord.TheVariants.{Wait, Read, Refuse}
use Rattle.account_file.specs.Order.{next_place, place_after}
use Rattle.account_file.specs.TextAccounts.{AreUnderWay}
use Rattle.account_file.specs.Binary.{FitsBy, bytes_by, is_binary, record_with, signature}
use Rattle.account_file.specs.BinaryAccounts.{AreEntries, BinaryFault, HasBinaryFault, SaysEntry}
use Rattle.account_file.specs.NextRecords.{BeginsRecord, EntryFound, IsBinaryNext, IsFound, IsOpen, IsRefused, Waits, answer_by, entry_next, next_at_end}
use Rattle.account_file.proofs.BinaryLemmas.{entry_back, longer_entries, malformed_stays, more_entries}
use Rattle.account_file.proofs.OrderLemmas.{place_after_last}

-- bytes that begin with records, after which an account stands so
module _ (bytes left : List ℕ) (records : List Record) (place : Place) (are : AreEntries bytes records left) (at' : place_after records ≡ Some place) where
  same_place : (p : Place) → place_after records ≡ Some p → place ≡ p
  same_place p e = let same : Some place ≡ Some p = sym at' ∙ e in cc

  under : IsOpen place → AreUnderWay records
  under open' = record {
    begun = λ e. open'.begun (same_place Start (ap place_after e));
    not_ended = λ ended. open'.not_ended (same_place Ended ended);
  }

  wait_says : (p : Place) (finished : Bool) → place ≡ p → Waits left finished p → (IsOpen p → AreUnderWay records) → SaysEntry bytes finished records (Ok None)
  wait_says Ended true e said way = record { records_are = subst (AreEntries bytes records) said are; ended = at' ∙ ap (λ q. Some q) e }
  wait_says Ended false e said way = record { left = left; records_are = are; no_more = inl (at' ∙ ap (λ q. Some q) e, said) }
  wait_says p true e said way = absurd (false≢true (sym said.1))
  wait_says p false e said way = record { left = left; records_are = are; no_more = inr (way said.0, said.2) }

  has : (wrong : RecordFault) → BinaryFault records left wrong → HasBinaryFault bytes records wrong
  has wrong h = record { left = left; records = are; fault_is = h }

  refused : (finished : Bool) (wrong : RecordFault) → IsRefused left finished place wrong → BinaryFault records left wrong
  refused finished fault.Header said = said
  refused finished fault.Word said = (under said.0, said.1)
  refused finished fault.Number said = said
  refused finished fault.Order said = (
    under said.0,
    record {
      entry = said.1.entry;
      after = said.1.after;
      begins = said.1.begins;
      out_of_order = λ may. false≢true (subst IsSome (place_after_last records (record_with said.1.entry) place at' ∙ said.1.no_place) may);
    },
  )
  refused finished fault.Truncated said = (under said.0, said.2)
  refused finished fault.Trailing said = (at' ∙ ap (λ q. Some q) said.0, said.1)

  not_cut : (wrong : RecordFault) → IsRefused left false place wrong → wrong ≢ fault.Truncated
  not_cut wrong said e = false≢true (subst (IsRefused left false place) e said).1

  pub entry_says : (finished : Bool) (next : NextRecord) → IsBinaryNext left finished place next → SaysEntry bytes finished records (answer_by next)
  entry_says finished Wait said = wait_says place finished refl said under
  entry_says finished (Read entry after used) said = record {
    left = drop used left;
    records_are = more_entries bytes records entry left (drop used left) are said.fits said.text_is (subst IsSome (sym (place_after_last records entry place at' ∙ said.place_is)) refl);
  }
  entry_says true (Refuse wrong) said = has wrong (refused true wrong said)
  entry_says false (Refuse wrong) said = (has wrong (refused false wrong said), not_cut wrong said)

-- a fault stays where bytes go on
pub binary_fault_stays : (bytes piece : List ℕ) (before : List Record) (wrong : RecordFault) → SaysEntry bytes false before (Err wrong) → SaysEntry (bytes ++ piece) false before (Err wrong)
binary_fault_stays bytes piece before wrong said =
    let h = said.0 in (
      record {
        left = h.left ++ piece;
        records = longer_entries bytes piece before h.left h.records;
        fault_is = stays before h.left piece wrong said.1 h.fault_is;
      },
      said.1,
    )
  where
    stays : (records : List Record) (left p : List ℕ) (w : RecordFault) → w ≢ fault.Truncated → BinaryFault records left w → BinaryFault records (left ++ p) w
    stays records left p fault.Header other h = h
    stays records left p fault.Word other h = (h.0, malformed_stays left p h.1)
    stays records left p fault.Number other h = h
    stays records left p fault.Order other h = (
      h.0,
      record {
        entry = h.1.entry;
        after = h.1.after ++ p;
        begins = record { fits = h.1.begins.fits; text_is = ap (λ l. l ++ p) h.1.begins.text_is ∙ append_assoc (entry_bytes h.1.entry) h.1.after p };
        out_of_order = h.1.out_of_order;
      },
    )
    stays records left p fault.Truncated other h = absurd (other refl)
    stays records left p fault.Trailing other h = (h.0, λ none. some left h.1 none)
      where
        some : (l : List ℕ) → l ≢ [] → l ++ p ≡ [] → ⊥
        some [] more none = more refl
        some (byte ∷ l) more none = cc

-- the entry that bytes begin with
pub found : (left new : List ℕ) (entry : Entry) → BeginsWith entry_bytes EntryFits left entry new → IsFound left entry (length left - length new)
found left new entry begins =
    let count : length left ≡ length (entry_bytes entry) + length new = ap length begins.text_is ∙ length-append (entry_bytes entry) new in
    let used : length left - length new ≡ length (entry_bytes entry) = omega (arith, count) in
    let rest : new ≡ drop (length left - length new) left =
    sym (drop-append_seam (entry_bytes entry) new) ∙ (ap (λ l. drop (length (entry_bytes entry)) l) (sym begins.text_is) ∙ ap (λ n. drop n left) (sym used)) in
    record { begins = subst (λ l. BeginsWith entry_bytes EntryFits left entry l) rest begins; within = omega arith }

-- a number has eight bytes at least
eight_at_least : (count : ℕ) → 8 ≤ length (number_bytes 8 count)
eight_at_least count = omega (arith, length-bytes_high_first 8 count)

-- what is done with it
pub entry_read : (left : List ℕ) (finished : Bool) (place : Place) (entry : Entry) (used : ℕ) → IsOpen place → IsFound left entry used → (next : Option Place) → next_place place (record_with entry) ≡ next
    → IsBinaryNext left finished place (entry_next (record_with entry) used next)
entry_read left finished place entry used open' is None e = (open', record { entry = entry; after = drop used left; begins = is.begins; no_place = e })
entry_read left finished place entry used open' is (Some after) e =
    let back = sym (entry_back entry) in
    let count = ap length is.begins.text_is in
    record {
      fits = subst FitsBy back is.begins.fits;
      text_is = is.begins.text_is ∙ ap (λ o. bytes_by o ++ drop used left) back;
      place_is = e;
      some_used = omega (arith, count, is.within, length-append (entry_bytes entry) (drop used left), length-drop used left, eight_at_least (length (entry_body entry)), length-append (number_bytes 8 (length (entry_body entry))) (entry_body entry));
      within = is.within;
    }

-- the header
pub header_begins : (left : List ℕ) → is_binary left ≡ true → BeginsRecord left Start record_of.Header Headed 8
header_begins left e =
    let first = starts_is Decides-eqb left signature (is_binary left) refl in
    let text = first.0 e in
    record {
      fits = tt;
      text_is = text;
      place_is = refl;
      some_used = omega arith;
      within = omega (arith, ap length text, length-append signature (drop 8 left));
    }

-- nothing stands after the end
pub ended_next : (left : List ℕ) (finished : Bool) → IsBinaryNext left finished Ended (next_at_end Ended left)
ended_next [] finished = refl
ended_next (byte ∷ left) finished = (refl, λ e. cc)

-- why no entry is there
not_found : (left new : List ℕ) (why : EntryStop) → ReadsEntry left (Err why) new → EntryFound left (Err why)
not_found left new stop.Cut reads = reads
not_found left new stop.Malformed reads = reads
not_found left new stop.Memory reads = tt

-- it is passed on
pub stop_passed : (left new : List ℕ) (call : Result Entry EntryStop) (answer : Result (Record × ℕ) EntryStop) (why : EntryStop) → call ≡ Err why → IsErrAnd answer (λ e. e ≡ why) → ReadsEntry left call new → EntryFound left answer
stop_passed left new call (Ok found) why was from reads = absurd from
stop_passed left new call (Err e) why was from reads =
    subst (λ stop. EntryFound left (Err stop)) (sym from) (not_found left new why (subst (λ r. ReadsEntry left r new) was reads))
