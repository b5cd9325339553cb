-- How far the check of an account has come, piece by piece.
use Rattle.std.proofs.Common.{◌≡◌, ◌≢◌, ℕ, ◌+◌, ◌-◌, ◌<◌, ◌≤◌, Bool, IsTrue, List, [], ◌++◌, length, take, Option, Some, Result, Ok, Err, IfOk, refl, sym, ap, subst, ◌∙◌, inl, inr, arith, append_assoc, append-nil, length-append, length-take-le}
use Rattle.std.proofs.lemmas.List.{nil_from_length}
use Rattle.std.proofs.lemmas.Result.{on_ok_weaker}
use Rattle.net_core.specs.Graph.{IsGraph}
use Rattle.net_core.specs.Sides.{Graphs}
use Rattle.shelf_core.specs.Calls.{Reads}
use Rattle.shelf_core.specs.State.{ShelfState}
use Rattle.shelf_core.specs.declared.outside.ShelfStop.{ShelfStop}
use Rattle.shelf_core.specs.declared.outside.ShelfStop.TheVariants.{Failed, Memory}
use Rattle.account_check.specs.Checking.{Feeds, HasTaken, Progress}
use Rattle.account_check.specs.Verdicts.{IsRejected as IsBadAt}
use Rattle.account_check.specs.declared.verdict.CheckStop.{CheckStop}
use Rattle.account_check.specs.declared.verdict.CheckStop.TheVariants as check
use Rattle.account_check.specs.declared.verdict.Why.{Why}
use Rattle.account_check.proofs.RefusalLemmas.{right_refusal}
use Rattle.check_steps.specs.Judging.{FeedsNext, FeedsRest, IfAnswered, JudgesRest, halt_of}
use Rattle.check_steps.specs.Judged.{IsJudged, IsMatchIfAny, IsUnequalIfRefused, IsVerdict, Judges}
use Rattle.check_steps.specs.Files.{HasUnread}
use Rattle.check_steps.specs.ReadStops.{stop_of}
use Rattle.check_steps.specs.declared.files.ReadStop.{ReadStop}
use Rattle.check_steps.specs.declared.files.ReadStop.TheVariants as stop
use Rattle.check_steps.specs.declared.judging.Halt.{Halt}
use Rattle.check_steps.specs.declared.judging.Halt.TheVariants as halt
use Rattle.check_steps.specs.declared.outcome.Outcome.{Outcome}
use Rattle.check_steps.specs.declared.outcome.Outcome.TheVariants.{Rejected}
use Rattle.shelf_core.proofs.FaultLemmas.{if_ok, none_before, none_failed, one_call, rose_after}

-- Of the `size` unread bytes of an account, all but `left` were read, and their whole lines are valid, for any two circuits
-- that the check is of.
pub record IsFeeding (tells : Bool) (start now : ShelfState) (before after : Progress) (size left : ℕ) : Type 0 where
  pub unread : HasUnread tells now left
  pub files : (n : List ℕ) → now.held n ≡ start.held n
  pub clean : now.faults ≡ start.faults
  pub taken : (graphs : Graphs) → HasTaken graphs [] before
      → (bytes : List ℕ) × HasTaken graphs bytes after × (length bytes + left ≡ size) × (IsTrue tells → bytes ++ now.unread ≡ start.unread)

-- a line that is bad in what was fed
pub bad_by : (graphs : Graphs) (bytes : List ℕ) (progress : Progress) (stop : CheckStop) (line : ℕ) (reason : Why) → Feeds graphs bytes progress (Err stop) → halt_of stop ≡ halt.Bad line reason → (more : List ℕ) → IsBadAt graphs (bytes ++ more) line reason
bad_by graphs bytes progress (check.Rejected line reason) other because told is more =
    let same_line : line ≡ other = cc in
    let same : reason ≡ because = cc in
    subst (λ w. IsBadAt graphs (bytes ++ more) other w) same (subst (λ n. IsBadAt graphs (bytes ++ more) n reason) same_line (told more))
bad_by graphs bytes progress check.Memory other because told is more = cc

-- where a refusal of the account's bytes is accepted, whatever they are, the graphs have no match
pub refuses_by : (graphs : Graphs) (outcome : Outcome) → IsGraph graphs.first → IsGraph graphs.second → (account : List ℕ) → IsVerdict graphs (Some account) outcome → IsUnequalIfRefused graphs.first graphs.second outcome
refuses_by graphs outcome first second account verdict is =
    let proved = subst (IsVerdict graphs (Some account)) is verdict in
    right_refusal graphs proved.0 first second proved.2

-- what is judged of unread bytes is judged of the account
pub judged_by : (tells : Bool) (graphs : Graphs) (old new : ShelfState) (result : Result Outcome ReadStop) → IsGraph graphs.first → IsGraph graphs.second → JudgesRest tells graphs old new result → Judges tells graphs (Some old.unread) old new result
judged_by tells graphs old new result first second rest = record {
  files = rest.files;
  right = λ told. right result rest.verdict told;
  matches = rest.matches;
  refuses = refuses result rest.verdict;
  judged = rest.judged;
  clean = rest.clean;
  last = rest.last;
  failed = rest.failed;
}
  where
    right : (r : Result Outcome ReadStop) → IfOk r (λ outcome. (account : List ℕ) × IsVerdict graphs (Some account) outcome × (IsTrue tells → account ≡ old.unread)) → IsTrue tells → IfOk r (IsVerdict graphs (Some old.unread))
    right (Ok outcome) says told = subst (λ account. IsVerdict graphs (Some account) outcome) (says.2 told) says.1
    right (Err stop) says told = tt

    refuses : (r : Result Outcome ReadStop) → IfOk r (λ outcome. (account : List ℕ) × IsVerdict graphs (Some account) outcome × (IsTrue tells → account ≡ old.unread)) → IfOk r (IsUnequalIfRefused graphs.first graphs.second)
    refuses (Ok outcome) says = refuses_by graphs outcome first second says.0 says.1
    refuses (Err stop) says = tt

-- what was fed settles the account
pub settled_by : (tells : Bool) (graphs : Graphs) (old new : ShelfState) (progress : Progress) (done : Unit {0}) (result : Result Outcome ReadStop) → FeedsRest tells graphs old new progress (Ok done)
    → ((bytes : List ℕ) → HasTaken graphs bytes progress → IfOk result (IsVerdict graphs (Some bytes)))
    → ((bytes : List ℕ) → HasTaken graphs bytes progress → IfOk result (IsMatchIfAny graphs.first graphs.second))
    → IfOk result IsJudged → result ≢ Err stop.ReadFault → JudgesRest tells graphs old new result
settled_by tells graphs old new progress done result feeds verdict matches judged no_fault = record {
  files = feeds.files;
  mode = feeds.mode;
  verdict = told result (verdict feeds.taken.0 feeds.taken.1);
  matches = matches feeds.taken.0 feeds.taken.1;
  judged = judged;
  clean = if_ok result feeds.clean;
  last = feeds.last;
  failed = λ is. absurd (no_fault is);
}
  where
    told : (r : Result Outcome ReadStop) → IfOk r (IsVerdict graphs (Some feeds.taken.0)) → IfOk r (λ outcome. (account : List ℕ) × IsVerdict graphs (Some account) outcome × (IsTrue tells → account ≡ old.unread))
    told (Ok outcome) says = (feeds.taken.0, says, feeds.taken.2)
    told (Err stop) says = tt

-- the shelf failed, or memory ran out
pub stopped_by : (tells : Bool) (graphs : Graphs) (old new : ShelfState) (progress : Progress) (fed : Result (Unit {0}) Halt) (halted : ReadStop) → FeedsRest tells graphs old new progress fed → fed ≡ Err (halt.Stop halted) → JudgesRest tells graphs old new (Err halted)
stopped_by tells graphs old new progress fed halted feeds is = record {
  files = feeds.files;
  mode = feeds.mode;
  verdict = tt;
  matches = tt;
  judged = tt;
  clean = tt;
  last = feeds.last;
  failed = λ e. feeds.failed (is ∙ ap (λ (s : ReadStop). Err (halt.Stop s)) (same e));
}
  where
    same : ◌≡◌ {A = Result Outcome ReadStop} (Err halted) (Err stop.ReadFault) → halted ≡ stop.ReadFault
    same e = cc

-- a bad line is named
pub rejected_by : (tells : Bool) (graphs : Graphs) (old new : ShelfState) (progress : Progress) (fed : Result (Unit {0}) Halt) (line : ℕ) (reason : Why) → FeedsRest tells graphs old new progress fed → fed ≡ Err (halt.Bad line reason) → JudgesRest tells graphs old new (Ok (Rejected line reason))
rejected_by tells graphs old new progress fed line reason feeds is =
    let bad = feeds.bad line reason is in record {
      files = feeds.files;
      mode = feeds.mode;
      verdict = (bad.0, (bad.0, refl, bad.1), bad.2);
      matches = λ matching has. elim has [
        | inl same ↦ cc
        | inr same ↦ cc
      ];
      judged = record { asked = λ e. cc; no_rows = λ e. cc; read = λ e. cc; unwritten = λ e. cc; no_match = λ e. cc; no_pair = λ e. cc; no_netlist = λ gates e. cc; untrimmed = λ before after e. cc; unconverted = λ from to records e. cc; unflattened = λ models instances gates e. cc; unswept = λ before after left e. cc; no_trial = λ number account e. cc; unmatched = λ matching e. cc };
      clean = subst (λ answer. IfAnswered answer (new.faults ≡ old.faults)) is feeds.clean;
      last = feeds.last;
      failed = λ e. cc;
    }

-- a piece more was fed
pub feeding_on : (tells : Bool) (start old new : ShelfState) (before now after : Progress) (size left count : ℕ) → IsFeeding tells start old before now size left
    → ((graphs : Graphs) (bytes : List ℕ) → HasTaken graphs bytes now → FeedsNext tells graphs bytes old new after (Ok count))
    → (graphs : Graphs) → HasTaken graphs [] before → IsFeeding tells start new before after size (left - count)
feeding_on tells start old new before now after size left count so_far next graphs begun =
    let held = so_far.taken graphs begun in
    let more = next graphs held.0 held.1 in
    record {
      unread = record {
        reading = more.mode;
        left = omega (arith, more.left.1, so_far.unread.left);
        told = λ told. omega (arith, ap length (more.taken.3 told), length-append more.taken.0 new.unread, more.taken.1, so_far.unread.told told);
      };
      files = λ n. more.files n ∙ so_far.files n;
      clean = more.clean ∙ so_far.clean;
      taken = λ g has. taken g (so_far.taken g has);
    }
  where
    taken : (g : Graphs) → ((bytes : List ℕ) × HasTaken g bytes now × (length bytes + left ≡ size) × (IsTrue tells → bytes ++ old.unread ≡ start.unread))
        → (bytes : List ℕ) × HasTaken g bytes after × (length bytes + (left - count) ≡ size) × (IsTrue tells → bytes ++ new.unread ≡ start.unread)
    taken g held =
        let more = next g held.0 held.1 in
        let piece = more.taken.0 in (
          held.0 ++ piece,
          more.taken.2,
          omega (arith, held.2, more.taken.1, length-append held.0 piece, more.left.1, so_far.unread.left),
          λ told. append_assoc held.0 piece new.unread ∙ (ap (λ l. held.0 ++ l) (more.taken.3 told) ∙ held.3 told),
        )

-- all was fed
pub fed_all : (tells : Bool) (start now : ShelfState) (before after : Progress) (size left : ℕ) → IsFeeding tells start now before after size left → left ≤ 0 → (graphs : Graphs) → HasTaken graphs [] before → FeedsRest tells graphs start now after (Ok tt)
fed_all tells start now before after size left so_far none graphs begun =
    let held = so_far.taken graphs begun in
    record {
      files = so_far.files;
      mode = so_far.unread.reading;
      taken = (
        held.0,
        held.1,
        λ told. sym (append-nil held.0) ∙ (ap (λ l. held.0 ++ l) (sym (nil_from_length now.unread (omega (arith, so_far.unread.told told, none)))) ∙ held.3 told),
      );
      bad = λ line reason e. cc;
      clean = so_far.clean;
      last = none_failed start now so_far.clean;
      failed = λ e. cc;
    }

-- a line is bad, or the shelf failed
pub fed_part : (tells : Bool) (start old new : ShelfState) (before now after : Progress) (size left : ℕ) (halted : Halt) (result : Result (Unit {0}) Halt) → IsFeeding tells start old before now size left
    → ((graphs : Graphs) (bytes : List ℕ) → HasTaken graphs bytes now → FeedsNext tells graphs bytes old new after (Err halted))
    → result ≡ Err halted → (graphs : Graphs) → HasTaken graphs [] before → FeedsRest tells graphs start new after result
fed_part tells start old new before now after size left halted result so_far next is graphs begun =
    let held = so_far.taken graphs begun in
    let more = next graphs held.0 held.1 in
    subst (FeedsRest tells graphs start new after) (sym is)
    (record {
      files = λ n. more.files n ∙ so_far.files n;
      mode = more.mode;
      taken = tt;
      bad = λ line reason e. bad held (more.bad line reason (as_next line reason e));
      clean = clean halted more.clean;
      last = none_before start old new so_far.clean more.last;
      failed = λ e. rose_after start.faults old.faults new.faults so_far.clean (more.failed (as_fault e));
    })
  where
    clean : (h : Halt) → IfAnswered {T = ℕ} (Err h) (new.faults ≡ old.faults) → IfAnswered {T = Unit {0}} (Err h) (new.faults ≡ start.faults)
    clean (halt.Bad line reason) e = e ∙ so_far.clean
    clean (halt.Stop s) e = tt

    as_next : (line : ℕ) (reason : Why) → ◌≡◌ {A = Result (Unit {0}) Halt} (Err halted) (Err (halt.Bad line reason)) → ◌≡◌ {A = Result ℕ Halt} (Err halted) (Err (halt.Bad line reason))
    as_next line reason e = let same : halted ≡ halt.Bad line reason = cc in ap (λ (h : Halt). Err h) same

    as_fault : ◌≡◌ {A = Result (Unit {0}) Halt} (Err halted) (Err (halt.Stop stop.ReadFault)) → ◌≡◌ {A = Result ℕ Halt} (Err halted) (Err (halt.Stop stop.ReadFault))
    as_fault e = let same : halted ≡ halt.Stop stop.ReadFault = cc in ap (λ (h : Halt). Err h) same

    bad : {line : ℕ} {reason : Why} (held : (bytes : List ℕ) × HasTaken graphs bytes now × (length bytes + left ≡ size) × (IsTrue tells → bytes ++ old.unread ≡ start.unread))
        → ((piece : List ℕ) × ((more : List ℕ) → IsBadAt graphs ((held.0 ++ piece) ++ more) line reason) × (IsTrue tells → piece ++ new.unread ≡ old.unread))
        → (account : List ℕ) × IsBadAt graphs account line reason × (IsTrue tells → account ≡ start.unread)
    bad held told = (
      (held.0 ++ told.0) ++ new.unread,
      told.1 new.unread,
      λ tells_so. append_assoc held.0 told.0 new.unread ∙ (ap (λ l. held.0 ++ l) (told.2 tells_so) ∙ held.3 tells_so),
    )

-- what came was read and checked
pub fed_next : (tells : Bool) (graphs : Graphs) (bytes : List ℕ) (old new : ShelfState) (buffer after : List ℕ) (count : ℕ) (progress : Progress) → Reads tells old new buffer after (Ok count) → 0 < old.left → 0 < length buffer → count ≤ length after
    → Feeds graphs (bytes ++ take count after) progress (Ok tt) → FeedsNext tells graphs bytes old new progress (Ok count)
fed_next tells graphs bytes old new buffer after count progress reads some room within feeds = record {
  files = reads.files;
  mode = reads.mode;
  left = (reads.some some room, reads.left);
  taken = (take count after, length-take-le count after within, feeds, reads.bytes);
  bad = λ line reason e. cc;
  clean = reads.clean;
  last = one_call old new reads.counted;
  failed = λ e. cc;
}

-- what came has a bad line
pub fed_badly : (tells : Bool) (graphs : Graphs) (bytes : List ℕ) (old new : ShelfState) (buffer after : List ℕ) (count : ℕ) (progress : Progress) (check_stop : CheckStop) (result : Result ℕ Halt) → Reads tells old new buffer after (Ok count)
    → Feeds graphs (bytes ++ take count after) progress (Err check_stop) → result ≡ Err (halt_of check_stop) → FeedsNext tells graphs bytes old new progress result
fed_badly tells graphs bytes old new buffer after count progress check_stop result reads feeds handed =
    subst (FeedsNext tells graphs bytes old new progress) (sym handed)
    (record {
      files = reads.files;
      mode = reads.mode;
      left = tt;
      taken = tt;
      bad = λ line reason e. (take count after, bad_by graphs (bytes ++ take count after) progress check_stop line reason feeds (same line reason e), reads.bytes);
      clean = clean check_stop;
      last = one_call old new reads.counted;
      failed = λ e. absurd (no_fault check_stop e);
    })
  where
    same : (line : ℕ) (reason : Why) → ◌≡◌ {A = Result ℕ Halt} (Err (halt_of check_stop)) (Err (halt.Bad line reason)) → halt_of check_stop ≡ halt.Bad line reason
    same line reason e = cc

    clean : (s : CheckStop) → IfAnswered {T = ℕ} (Err (halt_of s)) (new.faults ≡ old.faults)
    clean (check.Rejected line reason) = reads.clean
    clean check.Memory = tt

    no_fault : (s : CheckStop) → ◌≡◌ {A = Result ℕ Halt} (Err (halt_of s)) (Err (halt.Stop stop.ReadFault)) → ⊥
    no_fault (check.Rejected line reason) e = cc
    no_fault check.Memory e = cc

-- nothing came
pub fed_nothing : (tells : Bool) (graphs : Graphs) (bytes : List ℕ) (old new : ShelfState) (buffer after : List ℕ) (progress : Progress) (shelf_stop : ShelfStop) (result : Result ℕ Halt) → Reads tells old new buffer after (Err shelf_stop)
    → result ≡ Err (halt.Stop (stop_of shelf_stop)) → FeedsNext tells graphs bytes old new progress result
fed_nothing tells graphs bytes old new buffer after progress shelf_stop result reads handed =
    subst (FeedsNext tells graphs bytes old new progress) (sym handed)
    (record {
      files = reads.files;
      mode = reads.mode;
      left = tt;
      taken = tt;
      bad = λ line reason e. cc;
      clean = tt;
      last = one_call old new reads.counted;
      failed = λ e. reads.failed (failed shelf_stop e);
    })
  where
    failed : (s : ShelfStop) → ◌≡◌ {A = Result ℕ Halt} (Err (halt.Stop (stop_of s))) (Err (halt.Stop stop.ReadFault)) → ◌≡◌ {A = Result ℕ ShelfStop} (Err s) (Err Failed)
    failed Failed e = refl
    failed Memory e = cc

-- what is judged of the account once it is open
pub judged_open : (tells : Bool) (graphs : Graphs) (content : Option (List ℕ)) (old open' new : ShelfState) (result : Result Outcome ReadStop) → ((n : List ℕ) → open'.held n ≡ old.held n) → open'.faults ≡ old.faults → (IsTrue tells → content ≡ Some open'.unread)
    → Judges tells graphs (Some open'.unread) open' new result → Judges tells graphs content old new result
judged_open tells graphs content old open' new result files clean same judges = record {
  files = λ n. judges.files n ∙ files n;
  right = λ told. subst (λ c. IfOk result (IsVerdict graphs c)) (sym (same told)) (judges.right told);
  matches = judges.matches;
  refuses = judges.refuses;
  judged = judges.judged;
  clean = on_ok_weaker result (λ later. later ∙ clean) judges.clean;
  last = none_before old open' new clean judges.last;
  failed = λ e. rose_after old.faults open'.faults new.faults clean (judges.failed e);
}
