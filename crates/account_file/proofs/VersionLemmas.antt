-- Laws of accounts of either version.
use Rattle.std.proofs.Common.{◌≡◌, ◌⊎◌, ℕ, suc, ◌+◌, ◌<◌, ◌≤◌, Bool, true, false, List, [], ◌∷◌, ◌++◌, length, get_or, take, drop, Option, None, Some, Result, Ok, Err, refl, sym, ap, subst, ◌∙◌, arith, inl, inr, length-append, length-take, take_all, take-suc}
use Rattle.std.specs.List.{flat_map}
use Rattle.std.proofs.Math.Seq.{take-length}
use Rattle.std.proofs.lemmas.Bool.{cases_lt}
use Rattle.std.proofs.lemmas.List.{take-append-le}
use Rattle.std.proofs.lemmas.List.Elements.{All-cons, All-nil}
use Rattle.account_file.specs.declared.record.Record.{Record}
use Rattle.account_file.specs.declared.record.Record.TheVariants as record_of
use Rattle.account_file.specs.declared.fault.RecordFault.{RecordFault}
use Rattle.account_file.specs.Lines.{whole_lines}
use Rattle.account_file.specs.Order.{HaveEnded, MayStand}
use Rattle.account_file.specs.TextAccounts.{AreRecords, IsNextLine}
use Rattle.account_file.specs.Binary.{HasBytes, is_binary, record_bytes}
use Rattle.account_file.specs.BinaryAccounts.{AreFirstEntries}
use Rattle.account_file.specs.Accounts.{AreAll, AreAllBy, AreFirst, AreFirstBy, HasFaultBy, HasFormFault, IsAccountBy, IsAccountOf, IsNextBy, IsNextRecord, SaysBy, SaysNext}
use Rattle.account_file.proofs.LawLemmas as text
use Rattle.account_file.proofs.BinaryLemmas.{binary_longer, longer_entries, take_entries, text_longer}
use Rattle.account_file.proofs.LineLemmas.{lines_stay}
use Rattle.account_file.proofs.BinaryLawLemmas.{no_more_entries, one_entry_answer, same_entries, says_nothing}
use Rattle.account_file.proofs.BinaryReadingLemmas.{header_begins}

module _ (bytes : List ℕ) where
  -- the first of records
  front_by : (b : Bool) (records : List Record) (k : ℕ) → k ≤ length records → AreFirstBy b bytes records → AreFirstBy b bytes (take k records)
  front_by false records k within are =
      let count : k ≡ length (take k records) = omega (arith, within, length-take k records) in
      subst (λ n. AreRecords (take n (whole_lines bytes)) (take k records)) count (text.front_records (whole_lines bytes) records k (length records) are within)
  front_by true records k within are = record { left = flat_map record_bytes (drop k records) ++ are.left; records_are = take_entries bytes records are.left k are.records_are }

  -- as many records are the same
  same_by : (b : Bool) (one other : List Record) → AreFirstBy b bytes one → AreFirstBy b bytes other → length one ≡ length other → one ≡ other
  same_by false one other first second count =
      text.same_records (take (length one) (whole_lines bytes)) one other first.form (subst (λ n. AreRecords (take n (whole_lines bytes)) other) (sym count) second).form
  same_by true one other first second count = same_entries bytes one other first second count

  -- the next record
  pushed : (before : List Record) (entry : Record) → length before + 1 ≡ length (before ++ entry ∷ [])
  pushed before entry = omega (arith, length-append before (entry ∷ []))

  with_next : (b : Bool) (before : List Record) (entry : Record) → IsNextBy b bytes before entry → AreFirstBy b bytes (before ++ entry ∷ [])
  with_next false before entry next = subst (λ n. AreRecords (take n (whole_lines bytes)) (before ++ entry ∷ [])) (pushed before entry) next
  with_next true before entry next = next

  next_of_first : (b : Bool) (before : List Record) (entry : Record) → AreFirstBy b bytes (before ++ entry ∷ []) → IsNextBy b bytes before entry
  next_of_first false before entry are = subst (λ n. AreRecords (take n (whole_lines bytes)) (before ++ entry ∷ [])) (sym (pushed before entry)) are
  next_of_first true before entry are = are

  next_says : (b finished : Bool) (before : List Record) (entry : Record) → IsNextBy b bytes before entry → SaysBy b bytes finished before (Ok (Some entry))
  next_says false finished before entry next = next
  next_says true finished before entry next = next

  fault_first : (b : Bool) (before : List Record) (wrong : RecordFault) → HasFaultBy b bytes before wrong → AreFirstBy b bytes before
  fault_first false before wrong has = has.records
  fault_first true before wrong has = record { left = has.left; records_are = has.records }

  fault_says : (b : Bool) (before : List Record) (wrong : RecordFault) → HasFaultBy b bytes before wrong → SaysBy b bytes true before (Err wrong)
  fault_says false before wrong has = has
  fault_says true before wrong has = has

  account_says : (b : Bool) (records : List Record) → IsAccountBy b bytes records → SaysBy b bytes true records (Ok None)
  account_says false records account = account
  account_says true records account = account

  account_first : (b : Bool) (records : List Record) → IsAccountBy b bytes records → AreFirstBy b bytes records
  account_first false records account =
      let count = text.as_many (whole_lines bytes) records account.records_are.form in
      subst (λ l. AreRecords l records) (sym (take_all (length records) (whole_lines bytes) (omega (arith, count)))) account.records_are
  account_first true records account = record { left = []; records_are = account.records_are }

  no_more_by : (b : Bool) (records more : List Record) → IsAccountBy b bytes records → AreFirstBy b bytes more → length records < length more → ⊥
  no_more_by false records more account are less =
      let count = text.as_many (whole_lines bytes) records account.records_are.form in
      let some = text.as_many (take (length more) (whole_lines bytes)) more are.form in
      omega (arith, count, some, less, length-take (length more) (whole_lines bytes))
  no_more_by true records more account are less = no_more_entries bytes records more account are less

  one_answer_by : (b finished : Bool) (before : List Record) (first second : Result (Option Record) RecordFault) → SaysBy b bytes finished before first → SaysBy b bytes finished before second → first ≡ second
  one_answer_by false finished before first second f s = text.one_answer bytes finished before first second f s
  one_answer_by true finished before first second f s = one_entry_answer bytes finished before first second f s

  -- More records, of which the first are these: the one after them is the next.
  record IsFurtherBy (b : Bool) (before more : List Record) : Type 0 where
    pub same : before ≡ take (length before) more
    pub next : IsNextBy b bytes before (get_or more (length before) record_of.End)

  further_by : (b : Bool) (before more : List Record) → AreFirstBy b bytes before → AreFirstBy b bytes more → length before < length more → IsFurtherBy b before more
  further_by b before more few many below =
      let k = length before in
      let entry = get_or more k record_of.End in
      let front = front_by b more k (omega (arith, below)) many in
      let count : length before ≡ length (take k more) = omega (arith, below, length-take k more) in
      let same = same_by b before (take k more) few front count in
      let split : take (suc k) more ≡ before ++ entry ∷ [] = take-suc more k record_of.End below ∙ ap (λ r. r ++ entry ∷ []) (sym same) in
      record { same = same; next = next_of_first b before entry (subst (AreFirstBy b bytes) split (front_by b more (suc k) (omega (arith, below)) many)) }

  one_place_by : (b : Bool) (Ends : List Record → Type 0) → ((records : List Record) → Ends records → AreFirstBy b bytes records)
      → ((records more : List Record) → Ends records → Ends more → length records < length more → ⊥) → (one other : List Record) → Ends one → Ends other → one ≡ other
  one_place_by b Ends are no_more one other first second = elim (cases_lt (length one) (length other)) [
    | inl less ↦ absurd (no_more one other first second less)
    | inr least ↦ elim (cases_lt (length other) (length one)) [
      | inl less ↦ absurd (no_more other one second first less)
      | inr most ↦ same_by b one other (are one first) (are other second) (omega (arith, least, most))
    ]
  ]

  at_all_by : (b : Bool) (records before : List Record) → IsAccountBy b bytes records → AreFirstBy b bytes before → (AreFirstBy b bytes records → length before < length records → ⊥) → before ≡ records
  at_all_by b records before account few no_more = elim (cases_lt (length before) (length records)) [
    | inl less ↦ absurd (no_more (account_first b records account) less)
    | inr least ↦ elim (cases_lt (length records) (length before)) [
      | inl less ↦ absurd (no_more_by b records before account few less)
      | inr most ↦ same_by b before records few (account_first b records account) (omega (arith, least, most))
    ]
  ]

  fault_and_more_by : (b : Bool) (before more : List Record) (wrong : RecordFault) → HasFaultBy b bytes before wrong → AreFirstBy b bytes more → length before < length more → ⊥
  fault_and_more_by b before more wrong has many less =
      let entry = get_or more (length before) record_of.End in
      let next = (further_by b before more (fault_first b before wrong has) many less).next in
      let e : Err wrong ≡ Ok (Some entry) = one_answer_by b true before (Err wrong) (Ok (Some entry)) (fault_says b before wrong has) (next_says b true before entry next) in
      cc

  one_fault_by : (b : Bool) (before other : List Record) (first second : RecordFault) → HasFaultBy b bytes before first → HasFaultBy b bytes other second → (before ≡ other) × (first ≡ second)
  one_fault_by b before other first second f s =
      let same = one_place_by b (λ records. (wrong : RecordFault) × HasFaultBy b bytes records wrong) (λ records has. fault_first b records has.0 has.1)
      (λ records more has others less. fault_and_more_by b records more has.0 has.1 (fault_first b more others.0 others.1) less) before other (first, f) (second, s) in
      let e : ◌≡◌ {A = Result (Option Record) RecordFault} (Err first) (Err second) =
      one_answer_by b true other (Err first) (Err second) (fault_says b other first (subst (λ r. HasFaultBy b bytes r first) same f)) (fault_says b other second s) in
      (same, cc)

  account_or_fault_by : (b : Bool) (records before : List Record) (wrong : RecordFault) → IsAccountBy b bytes records → HasFaultBy b bytes before wrong → ⊥
  account_or_fault_by b records before wrong account has =
      let same = at_all_by b records before account (fault_first b before wrong has) (λ are less. fault_and_more_by b before records wrong has are less) in
      let e : Err wrong ≡ Ok None = one_answer_by b true records (Err wrong) (Ok None) (fault_says b records wrong (subst (λ r. HasFaultBy b bytes r wrong) same has)) (account_says b records account) in
      cc

-- the header of version 2
header_first : (bytes : List ℕ) → is_binary bytes ≡ true → AreFirstEntries bytes (record_of.Header ∷ [])
header_first bytes e =
    let header = header_begins bytes e in record {
      left = drop 8 bytes;
      records_are = record {
        items = record { each = All-cons HasBytes record_of.Header [] tt (All-nil HasBytes); text_is = header.text_is };
        order = refl;
      };
    }

-- the same by the bytes' version

pub one_answer : (bytes : List ℕ) (finished : Bool) (before : List Record) (first second : Result (Option Record) RecordFault) → SaysNext bytes finished before first → SaysNext bytes finished before second → first ≡ second
one_answer bytes = one_answer_by bytes (is_binary bytes)

pub one_fault : (bytes : List ℕ) (before other : List Record) (first second : RecordFault) → HasFormFault bytes before first → HasFormFault bytes other second → (before ≡ other) × (first ≡ second)
one_fault bytes = one_fault_by bytes (is_binary bytes)

pub account_or_fault : (bytes : List ℕ) (records before : List Record) (wrong : RecordFault) → IsAccountOf bytes records → HasFormFault bytes before wrong → ⊥
account_or_fault bytes = account_or_fault_by bytes (is_binary bytes)

pub fault_after_first : (bytes : List ℕ) (before : List Record) (wrong : RecordFault) → HasFormFault bytes before wrong → AreFirst bytes before
fault_after_first bytes = fault_first bytes (is_binary bytes)

pub fault_is_said : (bytes : List ℕ) (before : List Record) (wrong : RecordFault) → HasFormFault bytes before wrong → SaysNext bytes true before (Err wrong)
fault_is_said bytes = fault_says bytes (is_binary bytes)

pub next_is_said : (bytes : List ℕ) (finished : Bool) (before : List Record) (entry : Record) → IsNextRecord bytes before entry → SaysNext bytes finished before (Ok (Some entry))
next_is_said bytes = next_says bytes (is_binary bytes)

pub account_is_said : (bytes : List ℕ) (records : List Record) → IsAccountOf bytes records → SaysNext bytes true records (Ok None)
account_is_said bytes = account_says bytes (is_binary bytes)

pub account_is_first : (bytes : List ℕ) (records : List Record) → IsAccountOf bytes records → AreFirst bytes records
account_is_first bytes = account_first bytes (is_binary bytes)

-- the records before the next one
pub before_next : (bytes : List ℕ) (before : List Record) (entry : Record) → IsNextRecord bytes before entry → AreFirst bytes before
before_next bytes before entry next =
    let b = is_binary bytes in
    let all = before ++ entry ∷ [] in
    subst (AreFirst bytes) (take-append-le (length before) before (entry ∷ []) (omega arith) ∙ take-length before)
    (front_by bytes b all (length before) (omega (arith, length-append before (entry ∷ []))) (with_next bytes b before entry next))

-- more records, of which the first are these
pub record IsFurther (bytes : List ℕ) (before more : List Record) : Type 0 where
  pub same : before ≡ take (length before) more
  pub next : IsNextRecord bytes before (get_or more (length before) record_of.End)

pub further : (bytes : List ℕ) (before more : List Record) → AreFirst bytes before → AreFirst bytes more → length before < length more → IsFurther bytes before more
further bytes before more few many below =
    let on = further_by bytes (is_binary bytes) before more few many below in
    record { same = on.same; next = on.next }

pub one_place : (bytes : List ℕ) (Ends : List Record → Type 0) → ((records : List Record) → Ends records → AreFirst bytes records) → ((records more : List Record) → Ends records → Ends more → length records < length more → ⊥) → (one other : List Record) → Ends one → Ends other → one ≡ other
one_place bytes = one_place_by bytes (is_binary bytes)

pub at_all : (bytes : List ℕ) (records before : List Record) → IsAccountOf bytes records → AreFirst bytes before → (AreFirst bytes records → length before < length records → ⊥) → before ≡ records
at_all bytes = at_all_by bytes (is_binary bytes)

-- an account is one list of records
pub one_account : (bytes : List ℕ) (one other : List Record) → IsAccountOf bytes one → IsAccountOf bytes other → one ≡ other
one_account bytes one other first second =
    one_place bytes (IsAccountOf bytes) (account_is_first bytes) (λ records more account others less. no_more_by bytes (is_binary bytes) records more account (account_is_first bytes more others) less) one other first second

-- each text is an account or has a first fault, and of version 2 it isn't so that it is none and has none
pub every_text : (bytes : List ℕ) → is_binary bytes ≡ false → ((records : List Record) × IsAccountOf bytes records) ⊎ ((before : List Record) × ((wrong : RecordFault) × HasFormFault bytes before wrong))
every_text bytes e = elim (text.every_text bytes) [
  | inl account ↦ inl (account.0, subst (λ b. IsAccountBy b bytes account.0) (sym e) account.1)
  | inr has ↦ inr (has.0, (has.1.0, subst (λ b. HasFaultBy b bytes has.0 has.1.0) (sym e) has.1.1))
]

pub every_binary : (bytes : List ℕ) → is_binary bytes ≡ true → ((records : List Record) → IsAccountOf bytes records → ⊥) → ((before : List Record) (wrong : RecordFault) → HasFormFault bytes before wrong → ⊥) → ⊥
every_binary bytes e no_account no_fault =
    says_nothing bytes (λ records account. no_account records (subst (λ b. IsAccountBy b bytes records) (sym e) account))
    (λ before wrong has. no_fault before wrong (subst (λ b. HasFaultBy b bytes before wrong) (sym e) has)) (header_first bytes e)

-- what is said, by its kind

next_said_by : (b finished : Bool) (bytes : List ℕ) (before : List Record) (entry : Record) → SaysBy b bytes finished before (Ok (Some entry)) → IsNextBy b bytes before entry
next_said_by false finished bytes before entry said = said
next_said_by true finished bytes before entry said = said

pub next_said : (bytes : List ℕ) (finished : Bool) (before : List Record) (entry : Record) → SaysNext bytes finished before (Ok (Some entry)) → IsNextRecord bytes before entry
next_said bytes finished before entry said = next_said_by (is_binary bytes) finished bytes before entry said

account_said_by : (b : Bool) (bytes : List ℕ) (before : List Record) → SaysBy b bytes true before (Ok None) → IsAccountBy b bytes before
account_said_by false bytes before said = said
account_said_by true bytes before said = said

pub account_said : (bytes : List ℕ) (before : List Record) → SaysNext bytes true before (Ok None) → IsAccountOf bytes before
account_said bytes before said = account_said_by (is_binary bytes) bytes before said

all_said_by : (b : Bool) (bytes : List ℕ) (before : List Record) → SaysBy b bytes false before (Ok None) → AreAllBy b bytes before
all_said_by false bytes before said = said
all_said_by true bytes before said = said

pub all_said : (bytes : List ℕ) (before : List Record) → SaysNext bytes false before (Ok None) → AreAll bytes before
all_said bytes before said = all_said_by (is_binary bytes) bytes before said

fault_said_by : (b finished : Bool) (bytes : List ℕ) (before : List Record) (wrong : RecordFault) → SaysBy b bytes finished before (Err wrong) → HasFaultBy b bytes before wrong
fault_said_by false true bytes before wrong said = said
fault_said_by false false bytes before wrong said = said.0
fault_said_by true true bytes before wrong said = said
fault_said_by true false bytes before wrong said = said.0

pub fault_said : (bytes : List ℕ) (finished : Bool) (before : List Record) (wrong : RecordFault) → SaysNext bytes finished before (Err wrong) → HasFormFault bytes before wrong
fault_said bytes finished before wrong said = fault_said_by (is_binary bytes) finished bytes before wrong said

may_by : (b : Bool) (bytes : List ℕ) (before : List Record) (entry : Record) → IsNextBy b bytes before entry → MayStand before entry
may_by false bytes before entry next = next.order
may_by true bytes before entry next = next.records_are.order

-- the next record may stand there
pub next_may_stand : (bytes : List ℕ) (before : List Record) (entry : Record) → IsNextRecord bytes before entry → MayStand before entry
next_may_stand bytes before entry next = may_by (is_binary bytes) bytes before entry next

ended_by : (b : Bool) (bytes : List ℕ) (records : List Record) → IsAccountBy b bytes records → HaveEnded records
ended_by false bytes records account = account.ended
ended_by true bytes records account = account.ended

pub account_ended : (bytes : List ℕ) (records : List Record) → IsAccountOf bytes records → HaveEnded records
account_ended bytes records account = ended_by (is_binary bytes) bytes records account

-- the next record stays where bytes go on
text_next_stays : (bytes more : List ℕ) (before : List Record) (entry : Record) → IsNextLine bytes before entry → IsNextLine (bytes ++ more) before entry
text_next_stays bytes more before entry next =
    let n = length before + 1 in
    let lines = whole_lines bytes in
    let longer = lines_stay bytes more in
    let count = text.as_many (take n lines) (before ++ entry ∷ []) next.form in
    let within : n ≤ length lines = omega (arith, count, length-take n lines, length-append before (entry ∷ [])) in
    let same : take n (whole_lines (bytes ++ more)) ≡ take n lines = ap (take n) longer.1 ∙ take-append-le n lines longer.0 within in
    subst (λ l. AreRecords l (before ++ entry ∷ [])) (sym same) next

next_stays_by : (b : Bool) (bytes more : List ℕ) (before : List Record) (entry : Record) → is_binary bytes ≡ b → IsNextBy b bytes before entry → IsNextRecord (bytes ++ more) before entry
next_stays_by false bytes more before entry e next =
    let n = length before + 1 in
    let count = text.as_many (take n (whole_lines bytes)) (before ++ entry ∷ []) next.form in
    let some : 0 < length (whole_lines bytes) = omega (arith, count, length-take n (whole_lines bytes), length-append before (entry ∷ [])) in
    subst (λ b. IsNextBy b (bytes ++ more) before entry) (sym (text_longer bytes more e some)) (text_next_stays bytes more before entry next)
next_stays_by true bytes more before entry e next =
    subst (λ b. IsNextBy b (bytes ++ more) before entry) (sym (binary_longer bytes more e)) (record {
      left = next.left ++ more;
      records_are = longer_entries bytes more (before ++ entry ∷ []) next.left next.records_are;
    })

pub next_stays : (bytes more : List ℕ) (before : List Record) (entry : Record) → IsNextRecord bytes before entry → IsNextRecord (bytes ++ more) before entry
next_stays bytes more before entry next = next_stays_by (is_binary bytes) bytes more before entry refl next

-- before its first byte an account has no record
pub none_first : AreAll [] []
none_first = record { form = tt; order = refl }
