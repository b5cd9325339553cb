-- Each step of the check answers the verdict of the bytes, or goes on.
use Rattle.std.proofs.Common.{◌≡◌, ℕ, ◌+◌, Bool, true, false, cond, List, [], ◌∷◌, ◌++◌, length, Option, None, Some, IsSome, Result, Ok, Err, refl, sym, ap, subst, ◌∙◌, arith, length-append}
use Rattle.std.specs.Prelude.{is_some}
use Rattle.std.specs.Result.{IsErrAnd}
use Rattle.std.proofs.lemmas.Result.{err_from_is_err_and}
use Rattle.std.proofs.lemmas.List.{append-nil}
use Rattle.circuits.specs.Matches.{IsMatchOfFunctions}
use Rattle.net_core.specs.Sides.{Graphs}
use Rattle.net_core.specs.declared.matching.Matching.{Matching}
use Rattle.account_file.specs.declared.record.Record.{Record}
use Rattle.account_file.specs.declared.fault.RecordFault.{RecordFault}
use Rattle.account_file.specs.declared.fault.FileStop.{FileStop}
use Rattle.account_file.specs.declared.fault.FileStop.TheVariants as file
use Rattle.account_file.specs.declared.place.Place.TheVariants as place
use Rattle.account_file.specs.Order.{next_place}
use Rattle.account_file.specs.Accounts.{HasFormFault, IsNextRecord, SaysNext}
use Rattle.account_file.specs.Reading.{Reading, HasRead}
use Rattle.account_file.specs.Texts.{Says}
use Rattle.account_file.proofs.OrderLemmas.{place_after_last}
use Rattle.account_file.proofs.StepLemmas.{fault_stays}
use Rattle.account_file.proofs.VersionLemmas.{account_ended, account_said, all_said, fault_said, next_may_stand, none_first}
use Rattle.account_file.proofs.VersionLemmas as version
use Rattle.account_check.specs.declared.reject.Reject.{Reject}
use Rattle.account_check.specs.declared.reject.RecordStop.{RecordStop}
use Rattle.account_check.specs.declared.reject.RecordStop.TheVariants as stop
use Rattle.account_check.specs.declared.verdict.Verdict.{Verdict}
use Rattle.account_check.specs.declared.verdict.Verdict.TheVariants as verdict
use Rattle.account_check.specs.declared.verdict.CheckStop.{CheckStop}
use Rattle.account_check.specs.declared.verdict.CheckStop.TheVariants.{Memory}
use Rattle.account_check.specs.Accounts.{Account, after, empty_account, verdict_of, HasFault}
use Rattle.account_check.specs.Verdicts.{IsVerdict}
use Rattle.account_check.specs.Checking.{refused, unread, AreTaken, Goes, IsChecking, IsDone, IsThrough, TellsStop, WhateverFollows}
use Rattle.account_check.proofs.AccountLemmas.{account_after-push, account_graphs, account_place}
use Rattle.account_check.proofs.VerdictLemmas.{valid_more}

-- the line after the records that were read
next_line : (records : List Record) (new : Reading) (bytes : List ℕ) (count : ℕ) → HasRead new bytes records → (if_fault : Option RecordFault) → new.fault ≡ if_fault → count ≡ length records + cond (is_some if_fault) 1 0 → new.line ≡ count
next_line records new bytes count read fault is count_is =
    read.line ∙ (ap (λ f. length records + cond (is_some f) 1 0) is ∙ sym count_is)

-- a record that may stand next
pub may_stand : (finished : Bool) (graphs : Graphs) (bytes : List ℕ) (reading : Reading) (account : Account) (entry : Record) → (so_far : IsChecking finished graphs bytes reading account) → IsNextRecord bytes so_far.records entry → IsSome (next_place account.place entry)
may_stand finished graphs bytes reading account entry so_far next =
    let place = reading.place in
    let there : account.place ≡ place = ap (λ (a : Account). a.place) so_far.account_is ∙ account_place graphs so_far.records place so_far.read.place in
    subst IsSome (place_after_last so_far.records entry place so_far.read.place ∙ ap (λ p. next_place p entry) (sym there)) (next_may_stand bytes so_far.records entry next)

-- a record more was taken
pub goes_on : (finished : Bool) (graphs : Graphs) (bytes : List ℕ) (old new : Reading) (account then : Account) (entry : Record) → (so_far : IsChecking finished graphs bytes old account) → HasRead new bytes (so_far.records ++ entry ∷ []) → new.finished ≡ old.finished → new.fault ≡ None → HasFault account entry None → then ≡ after account entry → IsChecking finished graphs bytes new then
goes_on finished graphs bytes old new account then entry so_far read stays no_fault fine is = record {
  records = so_far.records ++ entry ∷ [];
  read = read;
  finished_is = stays ∙ so_far.finished_is;
  no_fault = no_fault;
  valid = valid_more graphs so_far.records entry so_far.valid (subst (λ a. HasFault a entry None) so_far.account_is fine);
  account_is = is ∙ (ap (λ a. after a entry) so_far.account_is ∙ sym (account_after-push graphs so_far.records entry));
}

-- all records were taken
pub through : (finished : Bool) (graphs : Graphs) (bytes : List ℕ) (old new : Reading) (account : Account) → (so_far : IsChecking finished graphs bytes old account) → SaysNext bytes old.finished so_far.records (Ok None) → HasRead new bytes (so_far.records ++ []) → new.finished ≡ old.finished → new.fault ≡ None → IsThrough finished graphs bytes new account
through true graphs bytes old new account so_far says read stays no_fault = record {
  records = so_far.records;
  are = account_said bytes so_far.records (subst (λ b. SaysNext bytes b so_far.records (Ok None)) so_far.finished_is says);
  valid = so_far.valid;
  account_is = so_far.account_is;
}
through false graphs bytes old new account so_far says read stays no_fault = record {
  so_far = record {
    records = so_far.records;
    read = subst (HasRead new bytes) (append-nil so_far.records) read;
    finished_is = stays ∙ so_far.finished_is;
    no_fault = no_fault;
    valid = so_far.valid;
    account_is = so_far.account_is;
  };
  all = all_said bytes so_far.records (subst (λ b. SaysNext bytes b so_far.records (Ok None)) so_far.finished_is says);
}

-- what is said of a text is said as something else
told_as : {P Q : List ℕ → Type 0} (finished : Bool) (bytes : List ℕ) → ((text : List ℕ) → P text → Q text) → WhateverFollows finished bytes P → WhateverFollows finished bytes Q
told_as {P} {Q} true bytes as_other told = as_other bytes told
told_as {P} {Q} false bytes as_other told = λ more. as_other (bytes ++ more) (told more)

-- where memory runs out, nothing is said
pub memory_told : (finished : Bool) (graphs : Graphs) (bytes : List ℕ) → TellsStop finished graphs bytes Memory
memory_told true graphs bytes = tt
memory_told false graphs bytes = λ more. tt

-- the next record of a text stays where the text goes on
next_stays : (finished : Bool) (bytes : List ℕ) (before : List Record) (entry : Record) → IsNextRecord bytes before entry → WhateverFollows finished bytes (λ text. IsNextRecord text before entry)
next_stays true bytes before entry next = next
next_stays false bytes before entry next = λ more. version.next_stays bytes more before entry next

-- and so does its fault
form_fault_stays : (finished : Bool) (bytes : List ℕ) (before : List Record) (fault : RecordFault) → SaysNext bytes finished before (Err fault) → WhateverFollows finished bytes (λ text. HasFormFault text before fault)
form_fault_stays true bytes before fault bad = fault_said bytes true before fault bad
form_fault_stays false bytes before fault bad = λ more. fault_said (bytes ++ more) false before fault (fault_stays bytes more before fault bad)

-- a line isn't read
pub unread_goes : (finished : Bool) (graphs : Graphs) (bytes : List ℕ) (old new : Reading) (account then : Account) (file_stop : FileStop) → (so_far : IsChecking finished graphs bytes old account) → Says {X = Option Record} (Err file_stop) (SaysNext bytes old.finished so_far.records) → HasRead new bytes (so_far.records ++ []) → ((fault : RecordFault) → file_stop ≡ file.Fault fault → new.fault ≡ Some fault) → Goes finished graphs bytes new then (Err (unread new.line file_stop))
unread_goes finished graphs bytes old new account then file.Memory so_far says read told = memory_told finished graphs bytes
unread_goes finished graphs bytes old new account then (file.Fault fault) so_far says read told =
    let line = next_line so_far.records new bytes (length so_far.records + 1) (subst (HasRead new bytes) (append-nil so_far.records) read) (Some fault) (told fault refl) refl in
    told_as finished bytes (λ text bad. record { before = so_far.records; valid = so_far.valid; line_is = line; bad = bad })
    (form_fault_stays finished bytes so_far.records fault (subst (λ b. SaysNext bytes b so_far.records (Err fault)) so_far.finished_is says))

-- a record isn't taken
pub refused_goes : (finished : Bool) (graphs : Graphs) (bytes : List ℕ) (old new : Reading) (account then : Account) (entry : Record) (record_stop : RecordStop) → (so_far : IsChecking finished graphs bytes old account) → IsNextRecord bytes so_far.records entry → HasRead new bytes (so_far.records ++ entry ∷ []) → new.fault ≡ None → ((reject : Reject) → record_stop ≡ stop.Reject reject → HasFault account entry (Some reject)) → Goes finished graphs bytes new then (Err (refused new.line record_stop))
refused_goes finished graphs bytes old new account then entry stop.Memory so_far next read no_fault has = memory_told finished graphs bytes
refused_goes finished graphs bytes old new account then entry (stop.Reject reject) so_far next read no_fault has =
    let line = next_line (so_far.records ++ entry ∷ []) new bytes (length so_far.records + 1) read None no_fault (omega (arith, length-append so_far.records (entry ∷ []))) in
    let fault = subst (λ a. HasFault a entry (Some reject)) so_far.account_is (has reject refl) in
    told_as finished bytes (λ text next. record { before = so_far.records; valid = so_far.valid; line_is = line; bad = (entry, next, fault) }) (next_stays finished bytes so_far.records entry next)

-- where all records were taken, the account has ended
pub ended_place : (graphs : Graphs) (bytes : List ℕ) (account : Account) → IsDone graphs bytes account → account.place ≡ place.Ended
ended_place graphs bytes account is =
    ap (λ (a : Account). a.place) is.account_is ∙ account_place graphs is.records place.Ended (account_ended bytes is.records is.are)

-- and its verdict is that of the bytes
pub verdict_there : (graphs : Graphs) (bytes : List ℕ) (account : Account) (told : Verdict) → IsDone graphs bytes account → Some told ≡ verdict_of account → IsVerdict graphs bytes (Ok told)
verdict_there graphs bytes account told_ is told = record {
  records = is.records;
  account = is.are;
  valid = is.valid;
  verdict_is = ap (λ (a : Account). verdict_of a) (sym is.account_is) ∙ sym told;
}

done_graphs : (graphs : Graphs) (bytes : List ℕ) (account : Account) → IsDone graphs bytes account → account.graphs ≡ graphs
done_graphs graphs bytes account is =
    ap (λ (a : Account). a.graphs) is.account_is ∙ account_graphs graphs is.records

-- a match that the account's end proves
pub match_there : (graphs : Graphs) (bytes : List ℕ) (account : Account) (told : Verdict) (matching : Matching) → IsDone graphs bytes account → Some told ≡ verdict_of account → ◌≡◌ {A = Result Verdict CheckStop} (Ok told) (Ok (verdict.Match matching)) → ((m : Matching) → verdict_of account ≡ Some (verdict.Match m) → IsMatchOfFunctions account.graphs.first account.graphs.second m.inputs m.outputs) → IsMatchOfFunctions graphs.first graphs.second matching.inputs matching.outputs
match_there graphs bytes account told matching is so e proved =
    let same : told ≡ verdict.Match matching = cc in
    subst (λ g. IsMatchOfFunctions g.first g.second matching.inputs matching.outputs) (done_graphs graphs bytes account is) (proved matching (sym so ∙ ap (λ (v : Verdict). Some v) same))

-- Whatever the text and the circuits are, an account that was under check still is.
pub record StaysUnderCheck (reading : Reading) (account : Account) (now : Reading) (account_now : Account) : Type 0 where
  pub stays : (finished : Bool) (graphs : Graphs) (bytes : List ℕ) → IsChecking finished graphs bytes reading account → IsChecking finished graphs bytes now account_now

-- a check before its first record
pub begun : (graphs : Graphs) (reading : Reading) (account : Account) → HasRead reading [] [] → reading.finished ≡ false → reading.fault ≡ None → account ≡ empty_account graphs → AreTaken graphs [] reading account
begun graphs reading account read finished no_fault is = record {
  so_far = record {
    records = [];
    read = read;
    finished_is = finished;
    no_fault = no_fault;
    valid = λ k d below. absurd (omega (arith, below));
    account_is = is;
  };
  all = none_first;
}

-- more bytes came, or no more come
read_on : (finished : Bool) (graphs : Graphs) (bytes text : List ℕ) (old new : Reading) (account : Account) → ((records : List Record) → HasRead old bytes records → HasRead new text records) → new.finished ≡ finished → new.fault ≡ old.fault → IsChecking false graphs bytes old account → IsChecking finished graphs text new account
read_on finished graphs bytes text old new account reads finished_is no_fault so_far = record {
  records = so_far.records;
  read = reads so_far.records so_far.read;
  finished_is = finished_is;
  no_fault = no_fault ∙ so_far.no_fault;
  valid = so_far.valid;
  account_is = so_far.account_is;
}

pub fed : (graphs : Graphs) (bytes piece left : List ℕ) (total : ℕ) (old new : Reading) (account : Account) → ((text : List ℕ) (records : List Record) → HasRead old text records → HasRead new (text ++ piece) records) → new ≡ record old { left = left; total = total } → IsChecking false graphs bytes old account → IsChecking false graphs (bytes ++ piece) new account
fed graphs bytes piece left total old new account reads is so_far =
    read_on false graphs bytes (bytes ++ piece) old new account (reads bytes) (ap (λ (r : Reading). r.finished) is ∙ so_far.finished_is) (ap (λ (r : Reading). r.fault) is) so_far

pub whole : (graphs : Graphs) (bytes : List ℕ) (old new : Reading) (account : Account) → ((text : List ℕ) (records : List Record) → HasRead old text records → HasRead new text records) → new ≡ record old { finished = true } → IsChecking false graphs bytes old account → IsChecking true graphs bytes new account
whole graphs bytes old new account reads is so_far =
    read_on true graphs bytes bytes old new account (reads bytes) (ap (λ (r : Reading). r.finished) is) (ap (λ (r : Reading). r.fault) is) so_far

-- what is so of the stop that `?` hands on
pub handed : {X : Type 0} (P : Result X CheckStop → Type 0) (check_stop : CheckStop) (result : Result X CheckStop) → P (Err check_stop) → IsErrAnd result (λ handed. handed ≡ check_stop) → P result
handed {X} P check_stop result so same = let err = err_from_is_err_and result same in subst P (sym (err.1 ∙ ap Err err.2)) so
