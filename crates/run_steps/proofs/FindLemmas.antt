-- What was found for two netlists, and whether its account was written.
use Rattle.std.proofs.Common.{◌≡◌, ◌⊎◌, ℕ, inl, inr, Bool, List, Option, Result, Ok, Err, IfErr, refl, sym, ◌∙◌, ap, subst}
use Rattle.net_core.specs.Sides.{Graphs}
use Rattle.circuits.specs.Matches.{IsMatchOfFunctions}
use Rattle.net_core.specs.declared.matching.Matching.{Matching}
use Rattle.net_file.specs.declared.named.Named.{Named}
use Rattle.port_report.specs.Reports.{names_of}
use Rattle.shelf_core.specs.State.{ShelfState}
use Rattle.shelf_core.specs.declared.outside.ShelfStop.{ShelfStop}
use Rattle.shelf_core.specs.declared.outside.ShelfStop.TheVariants.{Failed, Memory}
use Rattle.account_check.specs.declared.verdict.Verdict.TheVariants as verdict
use Rattle.run_steps.specs.Writing.{HasFirst, WritesFile}
use Rattle.check_steps.specs.Lines.{HasMatching, report_on}
use Rattle.run_steps.specs.Stops.{unwritten}
use Rattle.run_steps.specs.Steps.{Concludes, Finds, IsAnswered, IsCutOf, IsStopOfMatch, IsStopWithin, IsUnwritten}
use Rattle.check_steps.specs.Judged.{IsMatchIfAny, graphs_of}
use Rattle.check_steps.specs.declared.outcome.Ending.{Ending}
use Rattle.check_steps.specs.declared.outcome.Outcome.{Outcome}
use Rattle.check_steps.specs.declared.outcome.Outcome.TheVariants as outcome
use Rattle.shelf_core.proofs.FaultLemmas.{none_before, none_failed, rose_after}
use Rattle.run_steps.proofs.OutcomeLemmas.{no_fault, of_answer}

pub err_same : {X : Type 0} (o p : Outcome) (r : Result X Outcome) → r ≡ Err o → r ≡ Err p → o ≡ p
err_same o p r one other = cc

pub failed_is : (stop : ShelfStop) → unwritten stop ≡ outcome.WriteFault → stop ≡ Failed
failed_is Failed e = refl
failed_is Memory e = cc

pub is_unwritten : (stop : ShelfStop) → IsUnwritten (unwritten stop)
is_unwritten Failed = inl refl
is_unwritten Memory = inr refl

same_matching : (found matching : Matching) → HasMatching (outcome.Matched found) matching → found ≡ matching
same_matching found matching has = elim has [ inl e ↦ cc | inr e ↦ cc ]

-- the account wasn't written
pub not_concluded : (tells : Bool) (name text : List ℕ) (ending : Ending) (old new : ShelfState) (stop : ShelfStop) (o : Outcome) → o ≡ unwritten stop → WritesFile tells name text old new (Err stop) → Concludes tells name text ending old new (Err o)
not_concluded tells name text ending old new stop o is writes = record {
  others = writes.others;
  same = tt;
  whole = λ t. tt;
  stopped = subst IsUnwritten (sym is) (is_unwritten stop);
  part = writes.part;
  last = writes.last;
  failed = λ e. writes.failed (ap Err (failed_is stop (sym is ∙ err_same o outcome.WriteFault (Err o) refl e)));
}

-- it was written
pub concluded : (tells : Bool) (name text : List ℕ) (ending : Ending) (old new : ShelfState) → WritesFile tells name text old new (Ok tt) → Concludes tells name text ending old new (Ok ending)
concluded tells name text ending old new writes = record {
  others = writes.others;
  same = refl;
  whole = writes.whole;
  stopped = tt;
  part = λ t. tt;
  last = writes.last;
  failed = λ e. cc;
}

-- the search came to no answer, and nothing was written
pub not_solved : (tells : Bool) (first second : Named) (name : List ℕ) (budget : ℕ) (state : ShelfState) (o : Outcome) (result : Result Ending Outcome) → result ≡ Err o → IsStopWithin (graphs_of first second) budget o → Finds tells first second name budget state state result
not_solved tells first second name budget state o result is stop =
    subst (λ r. Finds tells first second name budget state state r) (sym is) (record {
      others = λ t n other. refl;
      answer = tt;
      report = tt;
      stopped = inl (stop, λ t. refl);
      last = none_failed state state refl;
      failed = λ e. absurd ((no_fault (graphs_of first second) budget o stop).1 (err_same o outcome.WriteFault (Err o) refl e));
    })

-- a first part of an account of an answer
cut_of : (graphs : Graphs) (account : List ℕ) (o : Outcome) (before after : Option (List ℕ)) → IsAnswered graphs account o → (after ≡ before) ⊎ HasFirst account after → IsCutOf graphs before after
cut_of graphs account o before after answer part =
    elim part [
      | inl same ↦ inl same
      | inr first ↦ of_answer (λ end. IsCutOf graphs before after) graphs account o answer
          (λ matching proves matches. inr (account, verdict.Match matching, proves, answer.0, first))
          (λ proves unequal. inr (account, verdict.None, proves, answer.0, first))
    ]

-- the matching of an answer is a match
pub match_of_answer : (graphs : Graphs) (account : List ℕ) (o : Outcome) → IsAnswered graphs account o → IsMatchIfAny graphs.first graphs.second o
match_of_answer graphs account o answer =
    of_answer (IsMatchIfAny graphs.first graphs.second) graphs account o answer
    (λ found proves matches matching has. subst (λ (t : Matching). IsMatchOfFunctions graphs.first graphs.second t.inputs t.outputs) (same_matching found matching has) matches)
    (λ proves unequal matching has. elim has [ inl e ↦ cc | inr e ↦ cc ])

-- the search came to an answer, and its account was written or cut off
pub solved : (tells : Bool) (first second : Named) (name account : List ℕ) (budget : ℕ) (ending : Ending) (old new : ShelfState) (result : Result Ending Outcome)
    → IsAnswered (graphs_of first second) account ending.outcome
    → ending.report.items ≡ report_on (names_of first) (names_of second) ending.outcome
    → Concludes tells name account ending old new result
    → Finds tells first second name budget old new result
solved tells first second name account budget ending old new (Ok other) answer report concludes = record {
  others = concludes.others;
  answer = (account, subst (λ (e : Ending). IsAnswered (graphs_of first second) account e.outcome) (sym concludes.same) answer, concludes.whole);
  report = subst (λ (e : Ending). e.report.items ≡ report_on (names_of first) (names_of second) e.outcome) (sym concludes.same) report;
  stopped = tt;
  last = concludes.last;
  failed = λ e. cc;
}
solved tells first second name account budget ending old new (Err o) answer report concludes = record {
  others = concludes.others;
  answer = tt;
  report = tt;
  stopped = inr (concludes.stopped, λ t. cut_of (graphs_of first second) account ending.outcome (old.held name) (new.held name) answer (concludes.part t));
  last = concludes.last;
  failed = concludes.failed;
}

-- files that were read before don't change what is found
pub finds_from : (tells : Bool) (first second : Named) (name : List ℕ) (budget : ℕ) (old middle new : ShelfState) (result : Result Ending Outcome) → ((n : List ℕ) → middle.held n ≡ old.held n) → middle.faults ≡ old.faults → Finds tells first second name budget middle new result → Finds tells first second name budget old new result
finds_from tells first second name budget old middle new result same clean found = record {
  others = λ t n other. found.others t n other ∙ same n;
  answer = found.answer;
  report = found.report;
  stopped = subst (λ content. IfErr result (IsStopOfMatch tells (graphs_of first second) budget content (new.held name))) (same name) found.stopped;
  last = none_before old middle new clean found.last;
  failed = λ e. rose_after old.faults middle.faults new.faults clean (found.failed e);
}
