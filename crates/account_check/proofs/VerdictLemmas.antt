-- The verdict of an account's bytes is one, and each step of the check answers it.
use Rattle.std.proofs.Common.{◌≡◌, ◌≢◌, ℕ, ◌+◌, ◌<◌, true, List, [], ◌∷◌, ◌++◌, length, get_or, take, slice_index_or, Option, None, Some, Result, Ok, Err, refl, sym, ap, subst, ◌∙◌, arith, inl, inr, length-append}
use Rattle.std.proofs.lemmas.Bool.{cases_lt}
use Rattle.std.proofs.lemmas.List.{get_or_append_left, get_or-append-add, take-append-le}
use Rattle.std.proofs.Math.Seq.{take-length}
use Rattle.net_core.specs.Sides.{Graphs}
use Rattle.account_file.specs.declared.record.Record.{Record}
use Rattle.account_file.specs.declared.record.Record.TheVariants as record_of
use Rattle.account_file.specs.declared.fault.RecordFault.{RecordFault}
use Rattle.account_file.specs.Accounts.{AreFirst, IsAccountOf, IsNextRecord}
use Rattle.account_file.proofs.VersionLemmas.{account_is_said, at_all, before_next, fault_after_first, fault_is_said, further, next_is_said, one_account, one_answer, one_place}
use Rattle.account_check.specs.declared.reject.Reject.{Reject}
use Rattle.account_check.specs.declared.verdict.Verdict.{Verdict}
use Rattle.account_check.specs.declared.verdict.Why.{Why}
use Rattle.account_check.specs.declared.verdict.Why.TheVariants as why
use Rattle.account_check.specs.declared.verdict.CheckStop.{CheckStop}
use Rattle.account_check.specs.declared.verdict.CheckStop.TheVariants.{Rejected, Memory}
use Rattle.account_check.specs.Accounts.{account_after, verdict_of, HasFault}
use Rattle.account_check.specs.Accounts.{AreValid}
use Rattle.account_check.specs.Verdicts.{IsAccepted, IsBad, IsRejected, IsVerdict}
use Rattle.account_check.proofs.FaultLemmas.{one_fault}

-- one valid record more
pub valid_more : (graphs : Graphs) (records : List Record) (entry : Record) → AreValid graphs records → HasFault (account_after graphs records) entry None → AreValid graphs (records ++ entry ∷ [])
valid_more graphs records entry valid fine k d below =
    elim (cases_lt k (length records)) [
      | inl before ↦
          let here = get_or_append_left records (entry ∷ []) d k before in
          let prior = take-append-le k records (entry ∷ []) (omega arith) in
          subst (λ e. HasFault (account_after graphs (take k (records ++ entry ∷ []))) e None) (sym here) (subst (λ rs. HasFault (account_after graphs rs) (slice_index_or records k d) None) (sym prior) (valid k d before))
      | inr after ↦
          let last : k ≡ length records = omega (arith, below, length-append records (entry ∷ [])) in
          let end : length records + 0 ≡ k = omega (arith, last) in
          let here : slice_index_or (records ++ entry ∷ []) k d ≡ entry = ap (λ j. slice_index_or (records ++ entry ∷ []) j d) (sym end) ∙ get_or-append-add records (entry ∷ []) 0 d in
          let prior : take k (records ++ entry ∷ []) ≡ records = take-append-le k records (entry ∷ []) (omega arith) ∙ (ap (λ j. take j records) last ∙ take-length records) in
          subst (λ e. HasFault (account_after graphs (take k (records ++ entry ∷ []))) e None) (sym here) (subst (λ rs. HasFault (account_after graphs rs) entry None) (sym prior) fine)
    ]

-- the records before a bad line
before_bad : (graphs : Graphs) (bytes : List ℕ) (before : List Record) (reason : Why) → IsBad graphs bytes before reason → AreFirst bytes before
before_bad graphs bytes before (why.Form fault) bad = fault_after_first bytes before fault bad
before_bad graphs bytes before (why.Record reject) bad = before_next bytes before bad.0 bad.1

-- a bad line isn't a valid record
bad_and_valid : (graphs : Graphs) (bytes : List ℕ) (before : List Record) (entry : Record) (reason : Why) → IsBad graphs bytes before reason → IsNextRecord bytes before entry → HasFault (account_after graphs before) entry None → ⊥
bad_and_valid graphs bytes before entry (why.Form fault) bad next fine =
    let e : Err fault ≡ Ok (Some entry) = one_answer bytes true before (Err fault) (Ok (Some entry)) (fault_is_said bytes before fault bad) (next_is_said bytes true before entry next) in
    cc
bad_and_valid graphs bytes before entry (why.Record reject) bad next fine =
    let e : ◌≡◌ {A = Result (Option Record) RecordFault} (Ok (Some bad.0)) (Ok (Some entry)) = one_answer bytes true before (Ok (Some bad.0)) (Ok (Some entry)) (next_is_said bytes true before bad.0 bad.1) (next_is_said bytes true before entry next) in
    let same : bad.0 ≡ entry = cc in
    let has = subst (λ r. HasFault (account_after graphs before) r (Some reject)) same bad.2 in
    let clash : None ≡ Some reject = one_fault (account_after graphs before) entry None (Some reject) fine has in
    cc

-- more records, of which the first are these
bad_and_more : (graphs : Graphs) (bytes : List ℕ) (before more : List Record) (reason : Why) → IsBad graphs bytes before reason → AreFirst bytes more → AreValid graphs more → length before < length more → ⊥
bad_and_more graphs bytes before more reason bad many valid below =
    let entry = get_or more (length before) record_of.End in
    let on = further bytes before more (before_bad graphs bytes before reason bad) many below in
    bad_and_valid graphs bytes before entry reason bad on.next (subst (λ rs. HasFault (account_after graphs rs) entry None) (sym on.same) (valid (length before) record_of.End below))

-- a line is bad for one reason
same_bad : (graphs : Graphs) (bytes : List ℕ) (before : List Record) (first second : Why) → IsBad graphs bytes before first → IsBad graphs bytes before second → first ≡ second
same_bad graphs bytes before (why.Form a) (why.Form b) one other =
    let e : ◌≡◌ {A = Result (Option Record) RecordFault} (Err a) (Err b) = one_answer bytes true before (Err a) (Err b) (fault_is_said bytes before a one) (fault_is_said bytes before b other) in
    let same : a ≡ b = cc in
    ap (λ f. why.Form f) same
same_bad graphs bytes before (why.Form a) (why.Record b) one other =
    let e : Err a ≡ Ok (Some other.0) = one_answer bytes true before (Err a) (Ok (Some other.0)) (fault_is_said bytes before a one) (next_is_said bytes true before other.0 other.1) in
    cc
same_bad graphs bytes before (why.Record a) (why.Form b) one other =
    let e : Ok (Some one.0) ≡ Err b = one_answer bytes true before (Ok (Some one.0)) (Err b) (next_is_said bytes true before one.0 one.1) (fault_is_said bytes before b other) in
    cc
same_bad graphs bytes before (why.Record a) (why.Record b) one other =
    let e : ◌≡◌ {A = Result (Option Record) RecordFault} (Ok (Some one.0)) (Ok (Some other.0)) = one_answer bytes true before (Ok (Some one.0)) (Ok (Some other.0)) (next_is_said bytes true before one.0 one.1) (next_is_said bytes true before other.0 other.1) in
    let same : one.0 ≡ other.0 = cc in
    let has = subst (λ r. HasFault (account_after graphs before) r (Some a)) same one.2 in
    let fault : ◌≡◌ {A = Option Reject} (Some a) (Some b) = one_fault (account_after graphs before) other.0 (Some a) (Some b) has other.2 in
    let reject : a ≡ b = cc in
    ap (λ r. why.Record r) reject

-- an account has one first bad record
pub one_rejection : (graphs : Graphs) (bytes : List ℕ) (line other : ℕ) (first second : Why) → IsRejected graphs bytes line first → IsRejected graphs bytes other second → (line ≡ other) × (first ≡ second)
one_rejection graphs bytes line other first second f s =
    let same = one_place bytes (λ records. (reason : Why) × IsBad graphs bytes records reason × AreValid graphs records) (λ records bad. before_bad graphs bytes records bad.0 bad.1)
    (λ records more bad others less. bad_and_more graphs bytes records more bad.0 bad.1 (before_bad graphs bytes more others.0 others.1) others.2 less)
    f.before s.before (first, f.bad, f.valid) (second, s.bad, s.valid) in
    (f.line_is ∙ (ap (λ records. length records + 1) same ∙ sym s.line_is), same_bad graphs bytes s.before first second (subst (λ r. IsBad graphs bytes r first) same f.bad) s.bad)

-- and it proves one verdict
pub one_proved : (graphs : Graphs) (bytes : List ℕ) (first second : Verdict) → IsAccepted graphs bytes first → IsAccepted graphs bytes second → first ≡ second
one_proved graphs bytes first second f s =
    let same : f.records ≡ s.records = one_account bytes f.records s.records f.account s.account in
    let e : Some first ≡ Some second = sym f.verdict_is ∙ (ap (λ r. verdict_of (account_after graphs r)) same ∙ s.verdict_is) in
    cc

-- what is accepted has no bad line
pub never_both : (graphs : Graphs) (bytes : List ℕ) (told : Verdict) (line : ℕ) (reason : Why) → IsAccepted graphs bytes told → IsRejected graphs bytes line reason → ⊥
never_both graphs bytes told line reason accepted rejected =
    let records = accepted.records in
    let same = at_all bytes records rejected.before accepted.account (before_bad graphs bytes rejected.before reason rejected.bad)
    (λ are less. bad_and_more graphs bytes rejected.before records reason rejected.bad are accepted.valid less) in
    ends records reason (subst (λ r. IsBad graphs bytes r reason) same rejected.bad) accepted.account
  where
    ends : (records : List Record) (reason : Why) → IsBad graphs bytes records reason → IsAccountOf bytes records → ⊥
    ends records (why.Form fault) bad account =
        let e : Err fault ≡ Ok None = one_answer bytes true records (Err fault) (Ok None) (fault_is_said bytes records fault bad) (account_is_said bytes records account) in
        cc
    ends records (why.Record reject) bad account =
        let e : ◌≡◌ {A = Result (Option Record) RecordFault} (Ok (Some bad.0)) (Ok None) = one_answer bytes true records (Ok (Some bad.0)) (Ok None) (next_is_said bytes true records bad.0 bad.1) (account_is_said bytes records account) in
        cc

-- an answer that is the verdict says it exactly
pub accepted_told : (graphs : Graphs) (bytes : List ℕ) (result : Result Verdict CheckStop) (told : Verdict) → IsVerdict graphs bytes result → result ≡ Ok told → IsAccepted graphs bytes told
accepted_told graphs bytes result told is e = subst (IsVerdict graphs bytes) e is

pub rejected_told : (graphs : Graphs) (bytes : List ℕ) (result : Result Verdict CheckStop) (line : ℕ) (reason : Why) → IsVerdict graphs bytes result → result ≡ Err (Rejected line reason) → IsRejected graphs bytes line reason
rejected_told graphs bytes result line reason is e = subst (IsVerdict graphs bytes) e is

pub accepted_exactly : (graphs : Graphs) (bytes : List ℕ) (result : Result Verdict CheckStop) (told : Verdict) → IsVerdict graphs bytes result → result ≢ Err Memory → IsAccepted graphs bytes told → result ≡ Ok told
accepted_exactly graphs bytes (Ok other) told is memory accepted = ap (λ (v : Verdict). Ok v) (one_proved graphs bytes other told is accepted)
accepted_exactly graphs bytes (Err (Rejected line reason)) told is memory accepted = absurd (never_both graphs bytes told line reason accepted is)
accepted_exactly graphs bytes (Err Memory) told is memory accepted = absurd (memory refl)

pub rejected_exactly : (graphs : Graphs) (bytes : List ℕ) (result : Result Verdict CheckStop) (line : ℕ) (reason : Why) → IsVerdict graphs bytes result → result ≢ Err Memory → IsRejected graphs bytes line reason → result ≡ Err (Rejected line reason)
rejected_exactly graphs bytes (Ok other) line reason is memory rejected = absurd (never_both graphs bytes other line reason is rejected)
rejected_exactly graphs bytes (Err (Rejected at because)) line reason is memory rejected =
    let same = one_rejection graphs bytes at line because reason is rejected in
    ap (λ n. Err (Rejected n because)) same.0 ∙ ap (λ w. Err (Rejected line w)) same.1
rejected_exactly graphs bytes (Err Memory) line reason is memory rejected = absurd (memory refl)
