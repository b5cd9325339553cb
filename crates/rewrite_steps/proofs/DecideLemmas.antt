-- What a run decides that reads an account or a netlist, and ends by an outcome of it.
use Rattle.std.proofs.Common.{◌≡◌, ◌≢◌, ℕ, inl, inr, Bool, IsTrue, List, Option, Some, Result, Ok, Err, IfOk, IfErr, refl, sym, ap, subst, ◌∙◌}
use Rattle.std.specs.Str.{bytes_eq}
use Rattle.shelf_core.specs.Fault.{NoCallFollows}
use Rattle.shelf_core.specs.State.{ShelfState}
use Rattle.shelf_core.proofs.FaultLemmas.{none_before, rose_after}
use Rattle.check_steps.specs.Asks.{Ask}
use Rattle.check_steps.specs.Lines.{line_of}
use Rattle.check_steps.specs.Stops.{outcome_of}
use Rattle.check_steps.specs.declared.files.ReadStop.{ReadStop}
use Rattle.check_steps.specs.declared.files.ReadStop.TheVariants as stop
use Rattle.check_steps.specs.declared.words.Command.{Command}
use Rattle.check_steps.specs.declared.outcome.Ending.{Ending}
use Rattle.check_steps.specs.declared.outcome.Outcome.{Outcome}
use Rattle.check_steps.specs.declared.outcome.Outcome.TheVariants.{Rejected, Absent, TooLarge, BadHierarchy, Trimmed, Converted, Flattened, Swept, ReadFault, Memory}
use Rattle.check_steps.proofs.EndLemmas.{of_reading}
use Rattle.run_steps.specs.Commands.{IsNotWritten, IsReadingCommand, IsWritingCommand}
use Rattle.run_steps.specs.Outcomes.{IsRight, Leaves, MayBeCut}
use Rattle.run_steps.specs.Steps.{Decides}
use Rattle.run_steps.specs.Writing.{HasFirst}
use Rattle.run_steps.proofs.CheckLemmas.{follows_files, follows_unwritten, leaves, stopped}
use Rattle.run_steps.proofs.FormLemmas.{reads_of}
use Rattle.run_steps.proofs.MatchLemmas.{everywhere}
use Rattle.run_steps.proofs.OutcomeLemmas.{early_unwritten, of_unwritten}
use Rattle.rewrite_steps.specs.Rewriting.{Rewrites}

-- outcomes of what was read, and those of them after which no file has changed

abbrev pub IsRefused : Outcome → Type 0
IsRefused (Rejected line why) = Unit {0}
IsRefused (Absent which) = Unit {0}
IsRefused (TooLarge which) = Unit {0}
IsRefused (BadHierarchy fault) = Unit {0}
IsRefused other = ⊥

abbrev pub IsTold : Outcome → Type 0
IsTold (Trimmed before after) = Unit {0}
IsTold (Converted from to records) = Unit {0}
IsTold (Flattened models instances gates) = Unit {0}
IsTold (Swept before after left) = Unit {0}
IsTold other = IsRefused other

told_of_refused : (o : Outcome) → IsRefused o → IsTold o
told_of_refused (Trimmed before after) is = tt
told_of_refused (Converted from to records) is = tt
told_of_refused (Flattened models instances gates) is = tt
told_of_refused (Swept before after left) is = tt
told_of_refused other is = is

-- where a file isn't read nothing is to be right
pub stop_right : (held : List ℕ → Option (List ℕ)) (words : List (List ℕ)) (s : ReadStop) → IsRight held words (outcome_of s)
stop_right held words stop.ReadFault = tt
stop_right held words stop.Memory = tt

module _ (tells : Bool) (command : Command) (reading : IsReadingCommand command) (writing : IsWritingCommand command) (old : ShelfState) where
  -- an outcome of what was read was told
  pub told_decides : (new : ShelfState) (ending : Ending) → IsTold ending.outcome → ending.report.items ≡ line_of ending.outcome
      → (IsTrue tells → (n : List ℕ) → IsNotWritten command n → new.held n ≡ old.held n)
      → (IsTrue tells → (words : List (List ℕ)) → Ask words command → Leaves old.held new.held words ending.outcome)
      → (IsTrue tells → (words : List (List ℕ)) → Ask words command → IsRight old.held words ending.outcome)
      → NoCallFollows old new
      → Decides tells command old new (Ok ending)
  told_decides new ending told line files left right last = record {
    files = files;
    left = left;
    right = right;
    by_words = λ words asks. follows_files words ending.outcome (reads_of words command reading asks) (λ e. subst IsTold e told) (λ number text e. subst IsTold e told);
    sound = λ t words asks. record { matches = λ matching e. absurd (subst IsTold e told); refuses = λ e. absurd (subst IsTold e told) };
    report = λ words asks. inl (
      record { unmatched = λ matching has. elim has [ inl e ↦ subst IsTold e told | inr e ↦ subst IsTold e told ]; no_rows = λ e. subst IsTold e told },
      line,
    );
    ending = record { asked = λ e. subst IsTold e told; read = λ e. subst IsTold e told; unwritten = λ e. subst IsTold e told };
    early = tt;
    last = last;
    failed = λ e. cc;
    unwritten = λ e. cc;
  }

  leaves_refused : (new : ShelfState) (words : List (List ℕ)) (o : Outcome) → IsRefused o → ((n : List ℕ) → new.held n ≡ old.held n) → Leaves old.held new.held words o
  leaves_refused new words o is same =
      leaves old.held new.held words o
      (λ matching e. subst IsRefused e is) (λ e. subst IsRefused e is) (λ e. subst IsRefused e is) (λ gates e. subst IsRefused e is)
      (λ count left e. subst IsRefused e is) (λ from to records e. subst IsRefused e is) (λ models instances gates e. subst IsRefused e is) (λ count rest left e. subst IsRefused e is) same

  -- an outcome was reported after which no file has changed
  pub refused_decides : (now : ShelfState) (o : Outcome) (result : Result Ending Outcome) → IsRefused o
      → IfOk result (λ ending. ending.outcome ≡ o)
      → IfOk result (λ ending. ending.report.items ≡ line_of o)
      → IfErr result (λ e. e ≡ Memory)
      → ((n : List ℕ) → now.held n ≡ old.held n)
      → (IsTrue tells → (words : List (List ℕ)) → Ask words command → IsRight old.held words o)
      → NoCallFollows old now
      → Decides tells command old now result
  refused_decides now o (Ok ending) is same line memory files right last =
      told_decides now ending (subst IsTold (sym same) (told_of_refused o is)) (line ∙ ap line_of (sym same)) (λ t n other. files n)
      (λ t words asks. leaves_refused now words ending.outcome (subst IsRefused (sym same) is) files)
      (λ t words asks. subst (IsRight old.held words) (sym same) (right t words asks))
      last
  refused_decides now o (Err e) is same line memory files right last =
      stopped tells command old now (Err e) Memory reading (ap Err memory) files (λ t words asks. tt) (of_reading Memory tt) last (λ fault. cc)

  -- An account or a netlist was made of the one that was read, and written, or there is none.
  module _ (Makes : Outcome → List ℕ → Type 0) (Refuses : Outcome → Type 0) (name : List ℕ) (now new : ShelfState)
      (named : (n : List ℕ) → IsNotWritten command n → n ≢ name)
      (files : (n : List ℕ) → now.held n ≡ old.held n) (clean : now.faults ≡ old.faults)
      (made_told : (o : Outcome) (bytes : List ℕ) → Makes o bytes → IsTold o)
      (refused_told : (o : Outcome) → Refuses o → IsRefused o)
      (made_right : (o : Outcome) (bytes : List ℕ) → Makes o bytes → IsTrue tells → (words : List (List ℕ)) → Ask words command → IsRight old.held words o)
      (refused_right : (o : Outcome) → Refuses o → IsTrue tells → (words : List (List ℕ)) → Ask words command → IsRight old.held words o)
      (made_left : (o : Outcome) (bytes : List ℕ) → Makes o bytes → new.held name ≡ Some bytes → IsTrue tells → (words : List (List ℕ)) → Ask words command → Leaves old.held new.held words o)
      (made_part : (o : Outcome) (bytes : List ℕ) → Makes o bytes → HasFirst bytes (new.held name) → IsTrue tells → (words : List (List ℕ)) → Ask words command → MayBeCut old.held new.held words) where
    cut : (o : Outcome) → Rewrites Makes Refuses tells name now new (Err o) → IsTrue tells → (words : List (List ℕ)) → Ask words command → MayBeCut old.held new.held words
    cut o rewrites t words asks =
        elim (rewrites.part t) [
          | inl same ↦ inl (λ n. everywhere old.held new.held name (λ m other. rewrites.others t m other ∙ files m) (same ∙ files name) n (bytes_eq n name) refl)
          | inr (outcome, bytes, made, first) ↦ made_part outcome bytes made first t words asks
        ]

    pub rewrites_decides : (result : Result Ending Outcome) → Rewrites Makes Refuses tells name now new result → Decides tells command old new result
    rewrites_decides (Ok ending) rewrites =
        elim rewrites.answer [
          | inl (bytes, made, there) ↦
              told_decides new ending (made_told ending.outcome bytes made) rewrites.line (λ t n other. rewrites.others t n (named n other) ∙ files n)
              (λ t words asks. made_left ending.outcome bytes made (there t) t words asks)
              (made_right ending.outcome bytes made)
              (none_before old now new clean rewrites.last)
          | inr (refuses, same) ↦
              told_decides new ending (told_of_refused ending.outcome (refused_told ending.outcome refuses)) rewrites.line (λ t n other. same n ∙ files n)
              (λ t words asks. leaves_refused new words ending.outcome (refused_told ending.outcome refuses) (λ n. same n ∙ files n))
              (refused_right ending.outcome refuses)
              (none_before old now new clean rewrites.last)
        ]
    rewrites_decides (Err o) rewrites = record {
      files = λ t n other. rewrites.others t n (named n other) ∙ files n;
      left = λ t words asks. let part = cut o rewrites t words asks in of_unwritten (Leaves old.held new.held words) o rewrites.stopped part part;
      right = λ t words asks. of_unwritten (IsRight old.held words) o rewrites.stopped tt tt;
      by_words = λ words asks. follows_unwritten words o rewrites.stopped;
      sound = λ t words asks. tt;
      report = λ words asks. tt;
      ending = tt;
      early = early_unwritten o rewrites.stopped;
      last = none_before old now new clean rewrites.last;
      failed = λ e. absurd (of_unwritten (λ end. end ≢ ReadFault) o rewrites.stopped (λ e. cc) (λ e. cc) (cc e));
      unwritten = λ e. (writing, rose_after old.faults now.faults new.faults clean (rewrites.failed e));
    }
