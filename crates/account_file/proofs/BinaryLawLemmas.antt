-- What bytes of version 2 say after records is one thing.
use Rattle.std.proofs.Common.{◌≡◌, ◌≢◌, ℕ, zero, suc, ◌+◌, ◌<◌, ◌≤◌, Bool, true, false, List, [], ◌∷◌, ◌++◌, length, get_or, take, drop, Option, None, Some, Result, Ok, Err, refl, sym, ap, subst, ◌∙◌, arith, inl, inr, append_assoc, length-append, length-drop, take_all, take-append-drop}
use Rattle.std.proofs.Math.Seq.{get_or-append_seam}
use Rattle.byte_form.specs.Codes.{BeginsNone, BeginsWith}
use Rattle.account_bytes.specs.declared.entry.Entry.{Entry}
use Rattle.account_bytes.specs.Entries.{EntryFits, FrameFits, IsMalformed, entry_bytes, frame_bytes}
use Rattle.account_file.specs.declared.record.Record.{Record}
use Rattle.account_file.specs.declared.record.Record.TheVariants as record_of
use Rattle.account_file.specs.declared.fault.RecordFault.{RecordFault}
use Rattle.account_file.specs.declared.fault.RecordFault.TheVariants as fault
use Rattle.account_file.specs.Order.{AreInOrder, HaveEnded, MayStand}
use Rattle.account_file.specs.TextAccounts.{AreUnderWay}
use Rattle.account_file.specs.Binary.{FitsBy, bytes_by, record_with}
use Rattle.account_file.specs.BinaryAccounts.{AreAllEntries, AreEntries, AreFirstEntries, BinaryFault, HasBinaryFault, IsBinaryAccount, SaysEntry}
use Rattle.account_file.proofs.BinaryLemmas.{entry_back, entry_is_frame, front_entries, more_entries, next_begins, none_after_end, same_begins, same_rest}
use Rattle.account_file.proofs.OrderLemmas.{front_in_order}

-- as many records of the same bytes are the same
pub same_entries : (bytes : List ℕ) (one other : List Record) → AreFirstEntries bytes one → AreFirstEntries bytes other → length one ≡ length other → one ≡ other
same_entries bytes one other first second count =
    (front_entries bytes one other first.left second.left first.records_are second.records_are (omega (arith, count))).same ∙ take_all (length one) other (omega (arith, count))

-- what is wrong at a place is one thing, and the next record has no fault
module _ (before : List Record) (left : List ℕ) where
  wrong_at_end : (wrong : RecordFault) → HaveEnded before → BinaryFault before left wrong → wrong ≡ fault.Trailing
  wrong_at_end fault.Header ended h = absurd h
  wrong_at_end fault.Word ended h = absurd (h.0.not_ended ended)
  wrong_at_end fault.Number ended h = absurd h
  wrong_at_end fault.Order ended h = absurd (h.0.not_ended ended)
  wrong_at_end fault.Truncated ended h = absurd (h.0.not_ended ended)
  wrong_at_end fault.Trailing ended h = refl

  wrong_in_pieces : (wrong : RecordFault) → AreUnderWay before → BeginsNone frame_bytes FrameFits left → BinaryFault before left wrong → wrong ≡ fault.Truncated
  wrong_in_pieces fault.Header under none h = absurd h
  wrong_in_pieces fault.Word under none h = absurd (none.none h.1.frame h.1.left h.1.whole)
  wrong_in_pieces fault.Number under none h = absurd h
  wrong_in_pieces fault.Order under none h = absurd (entry_is_frame left h.1.after h.1.entry h.1.begins none)
  wrong_in_pieces fault.Truncated under none h = refl
  wrong_in_pieces fault.Trailing under none h = absurd (under.not_ended h.0)

  wrong_in_form : (wrong : RecordFault) → AreUnderWay before → IsMalformed left → BinaryFault before left wrong → wrong ≡ fault.Word
  wrong_in_form fault.Header under bad h = absurd h
  wrong_in_form fault.Word under bad h = refl
  wrong_in_form fault.Number under bad h = absurd h
  wrong_in_form fault.Order under bad h = absurd (bad.none.none h.1.entry h.1.after h.1.begins)
  wrong_in_form fault.Truncated under bad h = absurd (h.1.none bad.frame bad.left bad.whole)
  wrong_in_form fault.Trailing under bad h = absurd (under.not_ended h.0)

  wrong_in_order : (wrong : RecordFault) (entry : Entry) (after : List ℕ) → AreUnderWay before → BeginsWith entry_bytes EntryFits left entry after → BinaryFault before left wrong → (wrong ≡ fault.Order) × (MayStand before (record_with entry) → ⊥)
  wrong_in_order fault.Header entry after under begins h = absurd h
  wrong_in_order fault.Word entry after under begins h = absurd (h.1.none.none entry after begins)
  wrong_in_order fault.Number entry after under begins h = absurd h
  wrong_in_order fault.Order entry after under begins h =
      (refl, λ may. h.1.out_of_order (subst (λ e. MayStand before (record_with e)) (same_begins left after h.1.after entry h.1.entry begins h.1.begins) may))
  wrong_in_order fault.Truncated entry after under begins h = absurd (entry_is_frame left after entry begins h.1)
  wrong_in_order fault.Trailing entry after under begins h = absurd (under.not_ended h.0)

  same_wrong : (first second : RecordFault) → BinaryFault before left first → BinaryFault before left second → first ≡ second
  same_wrong fault.Header second f s = absurd f
  same_wrong fault.Word second f s = sym (wrong_in_form second f.0 f.1 s)
  same_wrong fault.Number second f s = absurd f
  same_wrong fault.Order second f s = let told = wrong_in_order second f.1.entry f.1.after f.0 f.1.begins s in sym told.0
  same_wrong fault.Truncated second f s = sym (wrong_in_pieces second f.0 f.1 s)
  same_wrong fault.Trailing second f s = sym (wrong_at_end second f.0 s)

  -- nothing is wrong where records have ended and nothing is left
  none_wrong : (wrong : RecordFault) → HaveEnded before → left ≡ [] → BinaryFault before left wrong → ⊥
  none_wrong wrong ended none h = (subst (BinaryFault before left) (wrong_at_end wrong ended h) h).1 none

-- where something is wrong, the records are under way or have ended
module _ (bytes : List ℕ) (before : List Record) where
  next_and_fault : (entry : Record) (wrong : RecordFault) → AreFirstEntries bytes (before ++ entry ∷ []) → HasBinaryFault bytes before wrong → ⊥
  next_and_fault entry wrong next has = by wrong has.fault_is
    where
      may : MayStand before entry
      may = next.records_are.order

      clash : (w : RecordFault) → AreUnderWay before → BinaryFault before has.left w → ⊥
      clash w under h =
          let begins = next_begins bytes before entry has.left next.left under has.records next.records_are in
          let told = wrong_in_order before has.left w begins.of next.left under begins.begins h in
          told.1 (subst (MayStand before) begins.is may)

      by : (w : RecordFault) → BinaryFault before has.left w → ⊥
      by fault.Header h = h
      by fault.Word h = clash fault.Word h.0 h
      by fault.Number h = h
      by fault.Order h = clash fault.Order h.0 h
      by fault.Truncated h = clash fault.Truncated h.0 h
      by fault.Trailing h = none_after_end before entry h.0 may

  next_and_none : (entry : Record) → AreFirstEntries bytes (before ++ entry ∷ []) → AreAllEntries bytes before → ⊥
  next_and_none entry next all = elim all.no_more [
    | inl ended ↦ none_after_end before entry ended.0 next.records_are.order
    | inr open' ↦
        let begins = next_begins bytes before entry all.left next.left open'.0 all.records_are next.records_are in
        entry_is_frame all.left next.left begins.of begins.begins open'.1
  ]

  account_and_fault : (wrong : RecordFault) → IsBinaryAccount bytes before → HasBinaryFault bytes before wrong → ⊥
  account_and_fault wrong account has =
      none_wrong before has.left wrong account.ended (same_rest bytes before has.left [] has.records account.records_are) has.fault_is

  none_and_fault : (wrong : RecordFault) → AreAllEntries bytes before → HasBinaryFault bytes before wrong → wrong ≢ fault.Truncated → ⊥
  none_and_fault wrong all has other = elim all.no_more [
    | inl ended ↦ none_wrong before has.left wrong ended.0 (same_rest bytes before has.left all.left has.records all.records_are ∙ ended.1) has.fault_is
    | inr open' ↦
        let same = same_rest bytes before all.left has.left all.records_are has.records in
        other (wrong_in_pieces before has.left wrong open'.0 (subst (BeginsNone frame_bytes FrameFits) same open'.1) has.fault_is)
  ]

  one_wrong : (first second : RecordFault) → HasBinaryFault bytes before first → HasBinaryFault bytes before second → first ≡ second
  one_wrong first second f s =
      same_wrong before f.left first second f.fault_is (subst (λ l. BinaryFault before l second) (same_rest bytes before s.left f.left s.records f.records) s.fault_is)

  next_one : (a b : Record) → AreFirstEntries bytes (before ++ a ∷ []) → AreFirstEntries bytes (before ++ b ∷ []) → a ≡ b
  next_one a b f s =
      let count : length (before ++ a ∷ []) ≡ length (before ++ b ∷ []) = omega (arith, length-append before (a ∷ []), length-append before (b ∷ [])) in
      let same = same_entries bytes (before ++ a ∷ []) (before ++ b ∷ []) f s count in
      sym (get_or-append_seam before a [] record_of.End) ∙ (ap (λ l. get_or l (length before) record_of.End) same ∙ get_or-append_seam before b [] record_of.End)

pub one_entry_answer : (bytes : List ℕ) (finished : Bool) (before : List Record) (first second : Result (Option Record) RecordFault) → SaysEntry bytes finished before first → SaysEntry bytes finished before second → first ≡ second
one_entry_answer bytes finished before (Ok (Some a)) (Ok (Some b)) f s = ap (λ e. Ok (Some e)) (next_one bytes before a b f s)
one_entry_answer bytes true before (Ok (Some a)) (Ok None) f s = absurd (none_after_end before a s.ended f.records_are.order)
one_entry_answer bytes false before (Ok (Some a)) (Ok None) f s = absurd (next_and_none bytes before a f s)
one_entry_answer bytes true before (Ok (Some a)) (Err wrong) f s = absurd (next_and_fault bytes before a wrong f s)
one_entry_answer bytes false before (Ok (Some a)) (Err wrong) f s = absurd (next_and_fault bytes before a wrong f s.0)
one_entry_answer bytes true before (Ok None) (Ok (Some b)) f s = absurd (none_after_end before b f.ended s.records_are.order)
one_entry_answer bytes false before (Ok None) (Ok (Some b)) f s = absurd (next_and_none bytes before b s f)
one_entry_answer bytes finished before (Ok None) (Ok None) f s = refl
one_entry_answer bytes true before (Ok None) (Err wrong) f s = absurd (account_and_fault bytes before wrong f s)
one_entry_answer bytes false before (Ok None) (Err wrong) f s = absurd (none_and_fault bytes before wrong f s.0 s.1)
one_entry_answer bytes true before (Err wrong) (Ok (Some b)) f s = absurd (next_and_fault bytes before b wrong s f)
one_entry_answer bytes false before (Err wrong) (Ok (Some b)) f s = absurd (next_and_fault bytes before b wrong s f.0)
one_entry_answer bytes true before (Err wrong) (Ok None) f s = absurd (account_and_fault bytes before wrong s f)
one_entry_answer bytes false before (Err wrong) (Ok None) f s = absurd (none_and_fault bytes before wrong s f.0 f.1)
one_entry_answer bytes true before (Err a) (Err b) f s = ap Err (one_wrong bytes before a b f s)
one_entry_answer bytes false before (Err a) (Err b) f s = ap Err (one_wrong bytes before a b f.0 s.0)

-- more records than an account's are none of its bytes'
pub no_more_entries : (bytes : List ℕ) (records more : List Record) → IsBinaryAccount bytes records → AreFirstEntries bytes more → length records < length more → ⊥
no_more_entries bytes records more account are less =
    let front = front_entries bytes records more [] are.left account.records_are are.records_are (omega (arith, less)) in
    ends front.same (drop (length records) more) refl
  where
    ends : records ≡ take (length records) more → (rest : List Record) → drop (length records) more ≡ rest → ⊥
    ends same [] e = omega (arith, less, ap length e, length-drop (length records) more)
    ends same (entry ∷ rest) e =
        let all : more ≡ (records ++ entry ∷ []) ++ rest =
        sym (take-append-drop (length records) more) ∙ (ap (λ l. l ++ drop (length records) more) (sym same) ∙ (ap (λ l. records ++ l) e ∙ sym (append_assoc records (entry ∷ []) rest))) in
        none_after_end records entry account.ended (front_in_order (records ++ entry ∷ []) rest (subst AreInOrder all are.records_are.order))

-- Each text says something, as far as that can be said without deciding what bytes begin with: it isn't so that it is
-- no account and has no first fault.
no_push : (before : List Record) (entry : Record) → before ++ entry ∷ [] ≡ [] → ⊥
no_push [] entry e = cc
no_push (first ∷ before) entry e = cc

module _ (bytes : List ℕ) (no_account : (records : List Record) → IsBinaryAccount bytes records → ⊥) (no_fault : (before : List Record) (wrong : RecordFault) → HasBinaryFault bytes before wrong → ⊥) where
  module _ (before : List Record) (left : List ℕ) (are : AreEntries bytes before left) (some : before ≢ []) where
    not_ended : (l : List ℕ) → left ≡ l → HaveEnded before → ⊥
    not_ended [] e ended = no_account before (record { records_are = subst (AreEntries bytes before) e are; ended = ended })
    not_ended (byte ∷ l) e ended =
        no_fault before fault.Trailing (record { left = left; records = are; fault_is = (ended, λ none. let no : [] ≡ byte ∷ l = sym none ∙ e in cc) })

    under : AreUnderWay before
    under = record { begun = some; not_ended = not_ended left refl }

    module _ (smaller : (more : List Record) (after : List ℕ) → length after < length left → AreEntries bytes more after → more ≢ [] → ⊥) where
      no_next : (entry : Entry) (after : List ℕ) → BeginsWith entry_bytes EntryFits left entry after → MayStand before (record_with entry) → ⊥
      no_next entry after begins may =
          let count = ap length begins.text_is in
          let back = sym (entry_back entry) in
          let fewer : length after < length left = omega (arith, count, length-append (entry_bytes entry) after) in
          smaller (before ++ record_with entry ∷ []) after fewer
          (more_entries bytes before (record_with entry) left after are (subst FitsBy back begins.fits) (begins.text_is ∙ ap (λ o. bytes_by o ++ after) back) may)
          (no_push before (record_with entry))

      no_entry : (entry : Entry) (after : List ℕ) → BeginsWith entry_bytes EntryFits left entry after → ⊥
      no_entry entry after begins =
          no_fault before fault.Order (record { left = left; records = are; fault_is = (under, record { entry = entry; after = after; begins = begins; out_of_order = no_next entry after begins }) })

      no_frame : (frame : ℕ × List ℕ) (after : List ℕ) → BeginsWith frame_bytes FrameFits left frame after → ⊥
      no_frame frame after whole =
          no_fault before fault.Word (record { left = left; records = are; fault_is = (under, record { frame = frame; left = after; whole = whole; none = record { none = no_entry } }) })

      nothing_said : ⊥
      nothing_said = no_fault before fault.Truncated (record { left = left; records = are; fault_is = (under, record { none = no_frame }) })

  goes_on : (n : ℕ) (before : List Record) (left : List ℕ) → length left ≤ n → AreEntries bytes before left → before ≢ [] → ⊥
  goes_on zero before left within are some = nothing_said before left are some (λ more after less _ _. absurd (omega (arith, less, within)))
  goes_on (suc n) before left within are some =
      nothing_said before left are some (λ more after less are_more some_more. goes_on n more after (omega (arith, less, within)) are_more some_more)

  pub says_nothing : AreFirstEntries bytes (record_of.Header ∷ []) → ⊥
  says_nothing first = goes_on (length first.left) (record_of.Header ∷ []) first.left (omega arith) first.records_are (no_push [] record_of.Header)
