-- What a text says after records is one thing: one list of records, one answer, and an account or one first fault.
use Rattle.std.proofs.Common.{◌≡◌, ◌≢◌, ◌⊎◌, append_assoc, append-nil, ℕ, zero, suc, ◌+◌, ◌<◌, ◌≤◌, Bool, true, false, cond, codes, List, [], ◌∷◌, ◌++◌, length, get_or, take, Option, Some, None, IsSome, Result, Ok, Err, refl, sym, ap, subst, ◌∙◌, arith, inl, inr, length-append, length-take, get_or-take, take-suc, take-take, take_all}
use Rattle.std.specs.List.{AllZip}
use Rattle.std.specs.Str.{bytes_eq}
use Rattle.std.proofs.Math.Seq.{get_or-append_seam, take-append_seam}
use Rattle.std.proofs.lemmas.Bool.{cases_lt, false≢true}
use Rattle.std.proofs.lemmas.List.{append_cancel_right}
use Rattle.std.proofs.lemmas.Slice.Zip.{all_zipped_more, AllZip-long}
use Rattle.std.proofs.lemmas.Slice.Eq.{bytes_eq-Decides}
use Rattle.account_file.specs.declared.record.Record.{Record}
use Rattle.account_file.specs.declared.record.Record.TheVariants as record_of
use Rattle.account_file.specs.declared.fault.RecordFault.{RecordFault}
use Rattle.account_file.specs.declared.fault.RecordFault.TheVariants as fault
use Rattle.account_file.specs.declared.place.Place.{Place}
use Rattle.account_file.specs.declared.place.Place.TheVariants.{Start, Headed, Ended}
use Rattle.account_file.specs.declared.next_record.NextRecord.{NextRecord}
use Rattle.account_file.specs.declared.next_record.NextRecord.TheVariants.{Wait, Read, Refuse}
use Rattle.account_file.specs.Forms.{record_in}
use Rattle.account_file.specs.Words.{words_of}
use Rattle.account_file.specs.Lines.{whole_lines, after_lines}
use Rattle.account_file.specs.Order.{next_place, place_after, AreInOrder, MayStand}
use Rattle.account_file.specs.TextAccounts.{HasForm, AreRecords, LineFault, EndFault, HasTextFault, IsTextAccount, SaysLine}
use Rattle.account_file.specs.NextRecords.{in_place, placed, next_from, next_at_line}
use Rattle.account_file.proofs.AccountLemmas.{FaultThere, NextSays, fault_there, line_fault, next_at_line_says}
use Rattle.account_file.proofs.OrderLemmas.{place_after_last, place_there, take_in_order}
use Rattle.account_file.proofs.RecordLemmas.{written_is_read}

form_is_read : (line : List ℕ) (entry : Record) → HasForm line entry → record_in (words_of line) ≡ Ok entry
form_is_read line entry form = written_is_read entry line form.0 form.1

pub same_record : (line : List ℕ) (first second : Record) → HasForm line first → HasForm line second → first ≡ second
same_record line first second f s = let e : Ok first ≡ Ok second = sym (form_is_read line first f) ∙ form_is_read line second s in cc

pub same_records : (lines : List (List ℕ)) (first second : List Record) → AllZip HasForm lines first → AllZip HasForm lines second → first ≡ second
same_records [] [] [] f s = refl
same_records [] [] (b ∷ bs) f s = absurd s
same_records [] (a ∷ as') second f s = absurd f
same_records (line ∷ lines) [] second f s = absurd f
same_records (line ∷ lines) (a ∷ as') [] f s = absurd s
same_records (line ∷ lines) (a ∷ as') (b ∷ bs) f s = ap (λ e. e ∷ as') (same_record line a b f.0 s.0) ∙ ap (λ es. b ∷ es) (same_records lines as' bs f.1 s.1)

-- records and their lines, side by side
pub as_many : (lines : List (List ℕ)) (records : List Record) → AllZip HasForm lines records → length lines ≡ length records
as_many lines records forms = sym (AllZip-long HasForm lines records forms)

form_at : (lines : List (List ℕ)) (records : List Record) (k : ℕ) → AllZip HasForm lines records → k < length lines → HasForm (get_or lines k []) (get_or records k record_of.End)
form_at [] [] k z below = absurd (omega (arith, below))
form_at [] (e ∷ es) k z below = absurd z
form_at (line ∷ lines) [] k z below = absurd z
form_at (line ∷ lines) (e ∷ es) zero z below = z.0
form_at (line ∷ lines) (e ∷ es) (suc k) z below = form_at lines es k z.1 (omega (arith, below))

pub forms_of_front : (lines : List (List ℕ)) (records : List Record) (k : ℕ) → AllZip HasForm lines records → AllZip HasForm (take k lines) (take k records)
forms_of_front lines records zero z = tt
forms_of_front [] [] (suc k) z = tt
forms_of_front [] (e ∷ es) (suc k) z = absurd z
forms_of_front (line ∷ lines) [] (suc k) z = absurd z
forms_of_front (line ∷ lines) (e ∷ es) (suc k) z = (z.0, forms_of_front lines es k z.1)

-- what the code does at a line that has a record's form, or a fault

header_line : (line : List ℕ) → line ≡ codes "npnp 1" → bytes_eq line (codes "npnp 1") ≡ true
header_line line same = (bytes_eq-Decides line (codes "npnp 1")).1 same

other_line : (line : List ℕ) → line ≢ codes "npnp 1" → bytes_eq line (codes "npnp 1") ≡ false
other_line line other = by (bytes_eq line (codes "npnp 1")) refl
  where
    by : (b : Bool) → bytes_eq line (codes "npnp 1") ≡ b → b ≡ false
    by true e = absurd (other ((bytes_eq-Decides line (codes "npnp 1")).0 e))
    by false e = refl

said_record : (place : Place) (line : List ℕ) (entry : Record) (after : Place) → HasForm line entry → next_place place entry ≡ Some after
    → next_at_line place line ≡ Read entry after (length line + 1)
said_record Start line record_of.Header after form e =
    let same = append_cancel_right line (codes "npnp 1") (10 ∷ []) (sym form.1) in
    let headed : Headed ≡ after = cc in
    ap (λ b. next_from (length line + 1) (cond b (Ok (record_of.Header, Headed)) (Err fault.Header))) (header_line line same)
    ∙ ap (λ p. Read record_of.Header p (length line + 1)) headed
said_record Start line entry after form e = cc
said_record Ended line entry after form e = cc
said_record place line entry after form e =
    ap (λ r. next_from (length line + 1) (in_place place r)) (form_is_read line entry form) ∙ ap (λ p. next_from (length line + 1) (placed entry p)) e

said_fault : (place : Place) (line : List ℕ) (fault : RecordFault) → FaultThere place line fault → next_at_line place line ≡ Refuse fault
said_fault Start line fault.Header h = ap (λ b. next_from (length line + 1) (cond b (Ok (record_of.Header, Headed)) (Err fault.Header))) (other_line line h.1)
said_fault Start line fault.Truncated h = absurd h
said_fault Start line fault.Trailing h = cc
said_fault Start line other h = absurd (h.0 refl)
said_fault Ended line fault.Header h = let e = h.0 in cc
said_fault Ended line fault.Truncated h = absurd h
said_fault Ended line fault.Trailing h = refl
said_fault Ended line other h = absurd (h.1 refl)
said_fault place line fault.Header h = let e = h.0 in cc
said_fault place line fault.Order h =
    ap (λ r. next_from (length line + 1) (in_place place r)) (form_is_read line h.2.0 h.2.1) ∙ ap (λ p. next_from (length line + 1) (placed h.2.0 p)) h.2.2
said_fault place line fault.Truncated h = absurd h
said_fault place line fault.Trailing h = cc
said_fault place line other h = ap (λ r. next_from (length line + 1) (in_place place r)) h.2

-- what is read at a line after records
line_next : (before : List Record) (place : Place) (line : List ℕ) (entry : Record) → place_after before ≡ Some place → HasForm line entry → MayStand before entry
    → (after : Place) × (next_at_line place line ≡ Read entry after (length line + 1))
line_next before place line entry at' form may = by (next_place place entry) refl
  where
    by : (p : Option Place) → next_place place entry ≡ p → (after : Place) × (next_at_line place line ≡ Read entry after (length line + 1))
    by None e = absurd (false≢true (subst IsSome (place_after_last before entry place at' ∙ e) may))
    by (Some after) e = (after, said_record place line entry after form e)

fault_next : (before : List Record) (place : Place) (line : List ℕ) (fault : RecordFault) → place_after before ≡ Some place → LineFault before line fault → next_at_line place line ≡ Refuse fault
fault_next before place line fault at' h = said_fault place line fault (fault_there before place line fault at' h)

-- a line that is the next record has no fault, and one fault at most
pub no_fault : (before : List Record) (line : List ℕ) (entry : Record) (fault : RecordFault) → AreInOrder before → HasForm line entry → MayStand before entry → LineFault before line fault → ⊥
no_fault before line entry fault order form may h =
    let at' = place_there before order in
    let read = line_next before at'.0 line entry at'.1 form may in
    let refused = fault_next before at'.0 line fault at'.1 h in
    let e : Read entry read.0 (length line + 1) ≡ Refuse fault = sym read.1 ∙ refused in
    cc

same_line_fault : (before : List Record) (line : List ℕ) (first second : RecordFault) → AreInOrder before → LineFault before line first → LineFault before line second → first ≡ second
same_line_fault before line first second order f s =
    let at' = place_there before order in
    let e : Refuse first ≡ Refuse second = sym (fault_next before at'.0 line first at'.1 f) ∙ fault_next before at'.0 line second at'.1 s in
    cc

same_end_fault : (before : List Record) (rest : List ℕ) (first second : RecordFault) → EndFault before rest first → EndFault before rest second → first ≡ second
same_end_fault before rest fault.Truncated fault.Truncated f s = refl
same_end_fault before rest fault.Truncated fault.Trailing f s = absurd (f s.0)
same_end_fault before rest fault.Trailing fault.Truncated f s = absurd (s f.0)
same_end_fault before rest fault.Trailing fault.Trailing f s = refl
same_end_fault before rest fault.Truncated second f s = absurd s
same_end_fault before rest fault.Trailing second f s = absurd s
same_end_fault before rest other second f s = absurd f

-- After the lines of some records stands the line of another, which may stand there.
record IsNext (lines : List (List ℕ)) (before : List Record) (entry : Record) : Type 0 where
  pub below : length before < length lines
  pub form : HasForm (get_or lines (length before) []) entry
  pub may : MayStand before entry

next_record : (lines : List (List ℕ)) (before : List Record) (entry : Record) → AreRecords (take (length before + 1) lines) (before ++ entry ∷ []) → IsNext lines before entry
next_record lines before entry are =
    let k = length before in
    let count : length (take (k + 1) lines) ≡ k + 1 = as_many (take (k + 1) lines) (before ++ entry ∷ []) are.form ∙ length-append before (entry ∷ []) in
    let there : HasForm (get_or (take (k + 1) lines) k []) (get_or (before ++ entry ∷ []) k record_of.End) = form_at (take (k + 1) lines) (before ++ entry ∷ []) k are.form (omega (arith, count)) in
    let line : get_or (take (k + 1) lines) k [] ≡ get_or lines k [] = get_or-take (k + 1) lines k [] (omega arith) in
    record {
      below = omega (arith, count, length-take (k + 1) lines);
      form = subst (λ e. HasForm (get_or lines k []) e) (get_or-append_seam before entry [] record_of.End)
          (subst (λ l. HasForm l (get_or (before ++ entry ∷ []) k record_of.End)) line there);
      may = are.order;
    }

-- the first of records are those of the first lines
pub front_records : (lines : List (List ℕ)) (records : List Record) (k n : ℕ) → AreRecords (take n lines) records → k ≤ n → AreRecords (take k lines) (take k records)
front_records lines records k n are few = record {
  form = subst (λ l. AllZip HasForm l (take k records)) (take-take k n lines few) (forms_of_front (take n lines) records k are.form);
  order = take_in_order k records are.order;
}

-- More records, of which the first are these: the one after them is the next.
pub record IsFurther (lines : List (List ℕ)) (before more : List Record) : Type 0 where
  pub same : before ≡ take (length before) more
  pub next : AreRecords (take (length before + 1) lines) (before ++ get_or more (length before) record_of.End ∷ [])

pub further : (lines : List (List ℕ)) (before more : List Record) → AreRecords (take (length before) lines) before → AreRecords (take (length more) lines) more → length before < length more → IsFurther lines before more
further lines before more few many below =
    let k = length before in
    let entry = get_or more k record_of.End in
    let same = same_records (take k lines) before (take k more) few.form (front_records lines more k (length more) many (omega (arith, below))).form in
    let split : take (suc k) more ≡ before ++ entry ∷ [] = take-suc more k record_of.End below ∙ ap (λ r. r ++ entry ∷ []) (sym same) in
    let next = front_records lines more (suc k) (length more) many (omega (arith, below)) in
    let one : suc k ≡ k + 1 = omega arith in
    record { same = same; next = subst (λ n. AreRecords (take n lines) (before ++ entry ∷ [])) one (subst (AreRecords (take (suc k) lines)) split next) }

-- what is said of a text where certain records end, and not where more follow, is said at one place
pub one_place : (lines : List (List ℕ)) (Ends : List Record → Type 0) → ((records : List Record) → Ends records → AreRecords (take (length records) lines) records)
    → ((records more : List Record) → Ends records → Ends more → length records < length more → ⊥) → (one other : List Record) → Ends one → Ends other → one ≡ other
one_place lines Ends are no_more one other first second = elim (cases_lt (length one) (length other)) [
  | inl less ↦ absurd (no_more one other first second less)
  | inr least ↦ elim (cases_lt (length other) (length one)) [
    | inl less ↦ absurd (no_more other one second first less)
    | inr most ↦
        let count : length other ≡ length one = omega (arith, least, most) in
        same_records (take (length one) lines) one other (are one first).form (subst (λ n. AllZip HasForm (take n lines) other) count (are other second).form)
  ]
]

-- and where it isn't said before the end of all records, it is said there
pub at_all : (lines : List (List ℕ)) (records before : List Record) → AreRecords lines records → AreRecords (take (length before) lines) before
    → (AreRecords (take (length records) lines) records → length before < length records → ⊥) → before ≡ records
at_all lines records before all few no_more =
    let count = as_many lines records all.form in
    let some = as_many (take (length before) lines) before few.form in
    let whole : take (length records) lines ≡ lines = take_all (length records) lines (omega (arith, count)) in
    let are : AreRecords (take (length records) lines) records = subst (λ l. AreRecords l records) (sym whole) all in
    elim (cases_lt (length before) (length records)) [
      | inl less ↦ absurd (no_more are less)
      | inr least ↦
          let same_count : length before ≡ length records = omega (arith, least, some, count, length-take (length before) lines) in
          same_records (take (length records) lines) before records (subst (λ n. AllZip HasForm (take n lines) before) same_count few.form) are.form
    ]

module _ (bytes : List ℕ) (before : List Record) where
  fault_and_next : (entry : Record) (fault : RecordFault) → HasTextFault bytes before fault → IsNext (whole_lines bytes) before entry → ⊥
  fault_and_next entry fault has next =
      no_fault before (get_or (whole_lines bytes) (length before) []) entry fault has.records.order next.form next.may (has.at_line next.below)

  fault_and_more : (more : List Record) (fault : RecordFault) → HasTextFault bytes before fault → AreRecords (take (length more) (whole_lines bytes)) more → length before < length more → ⊥
  fault_and_more more fault has many less =
      let entry = get_or more (length before) record_of.End in
      fault_and_next entry fault has (next_record (whole_lines bytes) before entry (further (whole_lines bytes) before more has.records many less).next)

  same_fault : (first second : RecordFault) → HasTextFault bytes before first → HasTextFault bytes before second → first ≡ second
  same_fault first second f s = elim (cases_lt (length before) (length (whole_lines bytes))) [
    | inl below ↦ same_line_fault before (get_or (whole_lines bytes) (length before) []) first second f.records.order (f.at_line below) (s.at_line below)
    | inr past ↦ same_end_fault before (after_lines bytes) first second (f.at_end past) (s.at_end past)
  ]

  account_has_none : (wrong : RecordFault) → IsTextAccount bytes before → HasTextFault bytes before wrong → ⊥
  account_has_none wrong account has =
      let count = as_many (whole_lines bytes) before account.records_are.form in
      by wrong (has.at_end (omega (arith, count)))
    where
      by : (f : RecordFault) → EndFault before (after_lines bytes) f → ⊥
      by fault.Truncated h = h account.ended
      by fault.Trailing h = h.1 account.nothing_after
      by fault.Header h = h
      by fault.Word h = h
      by fault.Number h = h
      by fault.Order h = h

  next_and_all : (entry : Record) → IsNext (whole_lines bytes) before entry → AreRecords (whole_lines bytes) before → ⊥
  next_and_all entry next all = let count = as_many (whole_lines bytes) before all.form in absurd (omega (arith, count, next.below))

-- after records a text says one thing
pub one_answer : (bytes : List ℕ) (finished : Bool) (before : List Record) (first second : Result (Option Record) RecordFault) → SaysLine bytes finished before first → SaysLine bytes finished before second → first ≡ second
one_answer bytes finished before (Ok (Some a)) (Ok (Some b)) f s =
    let first = next_record (whole_lines bytes) before a f in
    let second = next_record (whole_lines bytes) before b s in
    ap (λ e. Ok (Some e)) (same_record (get_or (whole_lines bytes) (length before) []) a b first.form second.form)
one_answer bytes true before (Ok (Some a)) (Ok None) f s = absurd (next_and_all bytes before a (next_record (whole_lines bytes) before a f) s.records_are)
one_answer bytes false before (Ok (Some a)) (Ok None) f s = absurd (next_and_all bytes before a (next_record (whole_lines bytes) before a f) s)
one_answer bytes true before (Ok (Some a)) (Err fault) f s = absurd (fault_and_next bytes before a fault s (next_record (whole_lines bytes) before a f))
one_answer bytes false before (Ok (Some a)) (Err fault) f s = absurd (fault_and_next bytes before a fault s.0 (next_record (whole_lines bytes) before a f))
one_answer bytes true before (Ok None) (Ok (Some b)) f s = absurd (next_and_all bytes before b (next_record (whole_lines bytes) before b s) f.records_are)
one_answer bytes false before (Ok None) (Ok (Some b)) f s = absurd (next_and_all bytes before b (next_record (whole_lines bytes) before b s) f)
one_answer bytes finished before (Ok None) (Ok None) f s = refl
one_answer bytes true before (Ok None) (Err fault) f s = absurd (account_has_none bytes before fault f s)
one_answer bytes false before (Ok None) (Err fault) f s = absurd (let count = as_many (whole_lines bytes) before f.form in let below = s.1 in omega (arith, count, below))
one_answer bytes true before (Err fault) (Ok (Some b)) f s = absurd (fault_and_next bytes before b fault f (next_record (whole_lines bytes) before b s))
one_answer bytes false before (Err fault) (Ok (Some b)) f s = absurd (fault_and_next bytes before b fault f.0 (next_record (whole_lines bytes) before b s))
one_answer bytes true before (Err fault) (Ok None) f s = absurd (account_has_none bytes before fault s f)
one_answer bytes false before (Err fault) (Ok None) f s = absurd (let count = as_many (whole_lines bytes) before s.form in let below = f.1 in omega (arith, count, below))
one_answer bytes true before (Err a) (Err b) f s = ap Err (same_fault bytes before a b f s)
one_answer bytes false before (Err a) (Err b) f s = ap Err (same_fault bytes before a b f.0 s.0)

-- a text has one first fault
pub one_fault : (bytes : List ℕ) (before other : List Record) (first second : RecordFault) → HasTextFault bytes before first → HasTextFault bytes other second → (before ≡ other) × (first ≡ second)
one_fault bytes before other first second f s =
    let same = one_place (whole_lines bytes) (λ records. (fault : RecordFault) × HasTextFault bytes records fault) (λ records has. has.1.records)
    (λ records more has others less. fault_and_more bytes records more has.0 has.1 others.1.records less) before other (first, f) (second, s) in
    (same, same_fault bytes other first second (subst (λ r. HasTextFault bytes r first) same f) s)

-- a text that is an account has no fault
pub account_or_fault : (bytes : List ℕ) (records before : List Record) (fault : RecordFault) → IsTextAccount bytes records → HasTextFault bytes before fault → ⊥
account_or_fault bytes records before fault account has =
    let same = at_all (whole_lines bytes) records before account.records_are has.records (λ are less. fault_and_more bytes before records fault has are less) in
    account_has_none bytes records fault account (subst (λ r. HasTextFault bytes r fault) same has)

-- each text is an account or has a first fault

abbrev pub SaysSomething : List ℕ → Type 0
SaysSomething bytes = ((records : List Record) × IsTextAccount bytes records) ⊎ ((before : List Record) × ((fault : RecordFault) × HasTextFault bytes before fault))

-- the first lines are those of records, after which an account stands so
module _ (bytes : List ℕ) (done left : List (List ℕ)) (before : List Record) (place : Place) (lines : whole_lines bytes ≡ done ++ left) (form : AllZip HasForm done before) (at' : place_after before ≡ Some place) where
  done_are : AreRecords (take (length before) (whole_lines bytes)) before
  done_are =
      let count = as_many done before form in
      let front : take (length before) (whole_lines bytes) ≡ done = ap (take (length before)) lines ∙ ap (λ n. take n (done ++ left)) (sym count) ∙ take-append_seam done left in
      record { form = subst (λ l. AllZip HasForm l before) (sym front) form; order = subst IsSome (sym at') refl }

  pub refused_at : (line : List ℕ) (more : List (List ℕ)) → left ≡ line ∷ more → (wrong : RecordFault) → FaultThere place line wrong → HasTextFault bytes before wrong
  refused_at line more first wrong said =
      let count = as_many done before form in
      let all : whole_lines bytes ≡ done ++ line ∷ more = lines ∙ ap (λ l. done ++ l) first in
      let there : get_or (whole_lines bytes) (length before) [] ≡ line =
      ap (λ l. get_or l (length before) []) all ∙ ap (λ n. get_or (done ++ line ∷ more) n []) (sym count) ∙ get_or-append_seam done line more [] in
      record {
        records = done_are;
        at_line = λ _. subst (λ l. LineFault before l wrong) (sym there) (line_fault before place line wrong at' said);
        at_end = λ past. absurd (omega (arith, past, count, ap length all, length-append done (line ∷ more)));
      }

  pub refused_end : left ≡ [] → (wrong : RecordFault) → EndFault before (after_lines bytes) wrong → HasTextFault bytes before wrong
  refused_end none wrong h =
      let count = as_many done before form in
      record {
        records = done_are;
        at_line = λ below. absurd (omega (arith, below, count, ap length lines, length-append done left, ap length none));
        at_end = λ _. h;
      }

  pub cut_off : left ≡ [] → place ≢ Ended → HasTextFault bytes before fault.Truncated
  cut_off none open' = refused_end none fault.Truncated (λ ended. open' (let same : Some place ≡ Some Ended = sym at' ∙ ended in cc))

  accepted : left ≡ [] → place ≡ Ended → after_lines bytes ≡ [] → SaysSomething bytes
  accepted none ended nothing =
      let all : done ≡ whole_lines bytes = sym (lines ∙ ap (λ l. done ++ l) none ∙ append-nil done) in
      inl (
        before,
        record {
          records_are = record { form = subst (λ l. AllZip HasForm l before) all form; order = subst IsSome (sym at') refl };
          ended = at' ∙ ap Some ended;
          nothing_after = nothing;
        },
      )

  trailing : left ≡ [] → place ≡ Ended → after_lines bytes ≢ [] → SaysSomething bytes
  trailing none ended some = inr (before, (fault.Trailing, refused_end none fault.Trailing (at' ∙ ap Some ended, some)))

end_says : (bytes : List ℕ) (done : List (List ℕ)) (before : List Record) (place : Place) → whole_lines bytes ≡ done ++ [] → AllZip HasForm done before → place_after before ≡ Some place → SaysSomething bytes
end_says bytes done before Ended lines form at' = by (after_lines bytes) refl
  where
    by : (rest : List ℕ) → after_lines bytes ≡ rest → SaysSomething bytes
    by [] e = accepted bytes done [] before Ended lines form at' refl refl e
    by (byte ∷ rest) e = trailing bytes done [] before Ended lines form at' refl refl (λ none. let no : [] ≡ byte ∷ rest = sym none ∙ e in cc)
end_says bytes done before place lines form at' = inr (before, (fault.Truncated, cut_off bytes done [] before place lines form at' refl (λ e. cc)))

text_says : (bytes : List ℕ) (done left : List (List ℕ)) (before : List Record) (place : Place) → whole_lines bytes ≡ done ++ left → AllZip HasForm done before → place_after before ≡ Some place → SaysSomething bytes
text_says bytes done [] before place lines form at' = end_says bytes done before place lines form at'
text_says bytes done (line ∷ left) before place lines form at' =
    by (next_at_line place line) (next_at_line_says place line)
    (λ entry after has e. text_says bytes (done ++ line ∷ []) left (before ++ entry ∷ []) after (lines ∙ sym (append_assoc done (line ∷ []) left))
    (all_zipped_more HasForm done before line entry form has) (place_after_last before entry place at' ∙ e))
  where
    by : (next : NextRecord) → NextSays place line next → ((entry : Record) (after : Place) → HasForm line entry → next_place place entry ≡ Some after → SaysSomething bytes) → SaysSomething bytes
    by Wait said next = absurd said
    by (Read entry after used) said next = next entry after said.0 said.1
    by (Refuse wrong) said next = inr (before, (wrong, refused_at bytes done (line ∷ left) before place lines form at' line left refl wrong said))

pub every_text : (bytes : List ℕ) → SaysSomething bytes
every_text bytes = text_says bytes [] (whole_lines bytes) [] Start refl tt refl
