-- What one file, or the verdict on an account, says of a check.
use Rattle.std.proofs.Common.{◌≡◌, inl, inr, ℕ, Bool, IsTrue, List, Option, Result, Ok, Err, sym, subst}
use Rattle.std.specs.Prelude.{Vec}
use Rattle.std.specs.declared.alloc.Global.{Global}
use Rattle.shelf_core.specs.Fault.{NoCallFollows, Rose}
use Rattle.shelf_core.specs.State.{ShelfState}
use Rattle.port_report.specs.Reports.{names_of}
use Rattle.check_steps.proofs.Soundness.{sound}
use Rattle.net_core.specs.Sides.{Graphs}
use Rattle.check_steps.specs.Check.{IsAsked}
use Rattle.check_steps.specs.Checks.{AskFor, Checks, IsOfCheck, IsSound, JudgesFiles}
use Rattle.check_steps.specs.Ends.{EndsAt, EndsEarly}
use Rattle.check_steps.specs.Held.{HasGraph, HasNetlist, Netlist}
use Rattle.check_steps.specs.Judged.{IsVerdict, graphs_of}
use Rattle.check_steps.specs.Lines.{report_on}
use Rattle.check_steps.specs.Reading.{IsOfReading, netlist_of}
use Rattle.check_steps.specs.Stops.{outcome_of}
use Rattle.check_steps.specs.Words.{AsksCheck, NameOne, NameThree}
use Rattle.check_steps.specs.declared.checking.Judgement.{Judgement}
use Rattle.check_steps.specs.declared.files.ReadStop.{ReadStop}
use Rattle.check_steps.specs.declared.files.ReadStop.TheVariants as stop
use Rattle.check_steps.specs.declared.outcome.Ending.{Ending}
use Rattle.check_steps.specs.declared.outcome.Outcome.{Outcome}
use Rattle.check_steps.specs.declared.outcome.Outcome.TheVariants.{AcceptedMatch, AcceptedRefusal, Rejected, Absent, TooLarge, Malformed, ReadFault, Memory}
use Rattle.check_steps.specs.declared.outcome.Which.{Which}
use Rattle.check_steps.specs.declared.outcome.Which.TheVariants.{First, Second}
use Rattle.check_steps.specs.declared.words.Check.{Check}

early_end : (held : List ℕ → Option (List ℕ)) (words : List (List ℕ)) (file : Which) (content : Option (List ℕ)) (o : Outcome) → EndsAt file content o → EndsEarly held words o → IsOfCheck held words o
early_end held words file content (Absent which) ends early = inl early
early_end held words file content (TooLarge which) ends early = early
early_end held words file content (Malformed which kind at) ends early = early
early_end held words file content ReadFault ends early = tt
early_end held words file content Memory ends early = tt
early_end held words file content other ends early = absurd ends

pub at_first : (held : List ℕ → Option (List ℕ)) (words : List (List ℕ)) (f g t : List ℕ) → NameThree words f g t → (o : Outcome) → EndsAt First (held f) o → IsOfCheck held words o
at_first held words f g t asks o ends =
    early_end held words First (held f) o ends (inl (record { first_name = f; second_name = g; account_name = t; asks = asks; ends = ends }))

pub at_second : (held : List ℕ → Option (List ℕ)) (words : List (List ℕ)) (f g t : List ℕ) (first : Netlist) → NameThree words f g t → HasNetlist (held f) first → (o : Outcome) → EndsAt Second (held g) o → IsOfCheck held words o
at_second held words f g t first asks there o ends =
    early_end held words Second (held g) o ends (inr (inl (record { first_name = f; second_name = g; account_name = t; asks = asks; first = first; first_held = there; ends = ends })))

pub at_only : (held : List ℕ → Option (List ℕ)) (words : List (List ℕ)) (file : List ℕ) → NameOne words file → (o : Outcome) → EndsAt First (held file) o → IsOfCheck held words o
at_only held words file asks o ends =
    early_end held words First (held file) o ends (inr (inr (record { file_name = file; asks = asks; ends = ends })))

pub by_verdict : (held : List ℕ → Option (List ℕ)) (words : List (List ℕ)) (f g t : List ℕ) (graphs : Graphs) → AsksCheck words f g t → HasGraph (held f) graphs.first → HasGraph (held g) graphs.second → (o : Outcome) → IsVerdict graphs (held t) o → IsOfCheck held words o
by_verdict held words f g t graphs asks first second (AcceptedMatch matching) fact = record { graphs = graphs; account = fact.0; has = record { first_name = f; second_name = g; account_name = t; asks = asks; first_held = first; second_held = second; there = fact.1 }; accepted = fact.2 }
by_verdict held words f g t graphs asks first second AcceptedRefusal fact = record { graphs = graphs; account = fact.0; has = record { first_name = f; second_name = g; account_name = t; asks = asks; first_held = first; second_held = second; there = fact.1 }; accepted = fact.2 }
by_verdict held words f g t graphs asks first second (Rejected line why) fact = record { graphs = graphs; account = fact.0; has = record { first_name = f; second_name = g; account_name = t; asks = asks; first_held = first; second_held = second; there = fact.1 }; rejected = fact.2 }
by_verdict held words f g t graphs asks first second (Absent which) fact = inr (fact.0, record { first = first.netlist; second = second.netlist; account_name = t; asked = record { first_name = f; second_name = g; asks = asks; first_held = first.holds; second_held = second.holds }; absent = fact.1 })
by_verdict held words f g t graphs asks first second other fact = absurd fact

-- what a refusal of a read says of a check
pub stop_end : (held : List ℕ → Option (List ℕ)) (words : List (List ℕ)) (s : ReadStop) → IsOfCheck held words (outcome_of s)
stop_end held words stop.ReadFault = tt
stop_end held words stop.Memory = tt

-- the files were read up to an outcome that ends the check
pub check_stopped : (tells : Bool) (check : Check) (old new : ShelfState) (result : Result Ending Outcome) (o : Outcome) → result ≡ Err o → ((n : List ℕ) → new.held n ≡ old.held n) → (IsTrue tells → (words : List (List ℕ)) → AskFor words check → IsOfCheck old.held words o) → IsOfReading o → NoCallFollows old new → (o ≡ ReadFault → Rose old.faults new.faults) → Checks tells check old new result
check_stopped tells check old new result o same files right reading last failed =
    subst (λ r. Checks tells check old new r) (sym same) (record {
      files = files;
      right = right;
      sound = λ t words asks. tt;
      report = λ words asks. tt;
      judged = tt;
      early = reading;
      last = last;
      failed = λ e. failed (cc e);
    })

-- or that ends the judging of them
pub judging_stopped : (tells : Bool) (check : Check) (old new : ShelfState) (result : Result Judgement Outcome) (o : Outcome) → result ≡ Err o → ((n : List ℕ) → new.held n ≡ old.held n) → (IsTrue tells → (words : List (List ℕ)) → AskFor words check → IsOfCheck old.held words o) → IsOfReading o → NoCallFollows old new → (o ≡ ReadFault → Rose old.faults new.faults) → JudgesFiles tells check old new result
judging_stopped tells check old new result o same files right reading last failed =
    subst (λ r. JudgesFiles tells check old new r) (sym same) (record {
      files = files;
      closed = tt;
      first = tt;
      second = tt;
      verdict = λ t. tt;
      matches = tt;
      refuses = tt;
      judged = tt;
      right = right;
      early = reading;
      clean = tt;
      last = last;
      failed = λ e. failed (cc e);
    })

-- what was judged says of the words and the files what a check says
pub judged_right : (tells : Bool) (check : Check) (old new : ShelfState) (answer : Judgement) → JudgesFiles tells check old new (Ok answer) → IsTrue tells → (words : List (List ℕ)) → AskFor words check → IsOfCheck old.held words answer.outcome
judged_right tells check old new answer judges t words asks =
    by_verdict old.held words check.first.now check.second.now check.account.now (graphs_of answer.first answer.second) asks
    (record { netlist = netlist_of judges.first.circuit answer.first; holds = judges.first.held t; numbered = judges.first.numbered })
    (record { netlist = netlist_of judges.second.circuit answer.second; holds = judges.second.held t; numbered = judges.second.numbered })
    answer.outcome (judges.verdict t)

asked_of : (tells : Bool) (check : Check) (old new : ShelfState) (answer : Judgement) → (judges : JudgesFiles tells check old new (Ok answer)) → IsTrue tells → (words : List (List ℕ)) → AskFor words check → IsAsked old.held words (netlist_of judges.first.circuit answer.first) (netlist_of judges.second.circuit answer.second) check.account.now
asked_of tells check old new answer judges t words asks = record {
  first_name = check.first.now;
  second_name = check.second.now;
  asks = asks;
  first_held = judges.first.held t;
  second_held = judges.second.held t;
}

pub judged_sound : (tells : Bool) (check : Check) (old new : ShelfState) (answer : Judgement) → JudgesFiles tells check old new (Ok answer) → IsTrue tells → (words : List (List ℕ)) → AskFor words check → IsSound old.held words answer.outcome
judged_sound tells check old new answer judges t words asks =
    sound tells old.held words (old.held check.first.now) (old.held check.second.now) answer.first answer.second check.account.now answer.outcome judges.first judges.second
    (asked_of tells check old new answer judges t words asks) judges.matches judges.refuses

-- and is reported
pub judged_well : (tells : Bool) (check : Check) (old new : ShelfState) (answer : Judgement) (report : Vec ℕ Global) → JudgesFiles tells check old new (Ok answer) → report.items ≡ report_on (names_of answer.first) (names_of answer.second) answer.outcome → Checks tells check old new (Ok (record { outcome = answer.outcome; report = report }))
judged_well tells check old new answer report judges same = record {
  files = judges.files;
  right = judged_right tells check old new answer judges;
  sound = judged_sound tells check old new answer judges;
  report = λ words asks. record {
    first = netlist_of judges.first.circuit answer.first;
    second = netlist_of judges.second.circuit answer.second;
    of_files = λ t. (check.account.now, asked_of tells check old new answer judges t words asks);
    same = same;
  };
  judged = judges.judged;
  early = tt;
  last = judges.last;
  failed = λ e. cc;
}
