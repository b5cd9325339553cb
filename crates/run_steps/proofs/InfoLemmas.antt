-- What is known of a netlist, and what a budget was spent on.
use Rattle.std.proofs.Common.{◌≡◌, ℕ, inl, inr, Bool, List, Option, Result, Ok, Err, refl, sym, subst}
use Rattle.circuits.specs.Netlists.{Net}
use Rattle.net_file.specs.declared.named.Named.{Named}
use Rattle.shelf_core.specs.State.{ShelfState}
use Rattle.check_steps.specs.Held.{HasGraph}
use Rattle.shelf_core.proofs.FaultLemmas.{none_failed}
use Rattle.run_steps.specs.Outcomes.{FollowsWords, IsRight, IsSoundAnswer, Leaves}
use Rattle.run_steps.proofs.CheckLemmas.{follows_files, stopped}
use Rattle.run_steps.proofs.OutcomeLemmas.{no_fault, of_stop, stop_line}
use Rattle.run_steps.specs.Info.{with_itself}
use Rattle.run_steps.specs.Steps.{Decides, InformsOf, IsEnding, IsStopWithin}
use Rattle.check_steps.specs.Reading.{IsReadFrom, netlist_of}
use Rattle.run_steps.specs.Commands.{asked_info}
use Rattle.check_steps.specs.Words.{AsksInfo}
use Rattle.check_steps.specs.declared.words.Info.{Info as InfoWords}
use Rattle.check_steps.specs.declared.outcome.Ending.{Ending}
use Rattle.check_steps.specs.declared.outcome.Outcome.{Outcome}
use Rattle.check_steps.specs.declared.outcome.Outcome.TheVariants.{Informed}

-- what ends such a run is right

stop_right : (held : List ℕ → Option (List ℕ)) (words : List (List ℕ)) (file : List ℕ) (budget : ℕ) (graph : Net) → AsksInfo words file budget → HasGraph (held file) graph → (o : Outcome) → IsStopWithin (with_itself graph) budget o → IsRight held words o
stop_right held words file budget graph asks there o stop =
    of_stop (IsRight held words) (with_itself graph) budget o stop
    (λ ledger spent. inl (record { file_name = file; budget = budget; asks = asks; graph = graph; there = there; spent = spent })) tt

-- a run that reports what is known of the file that was read
pub informs : (tells : Bool) (info : InfoWords) (old new : ShelfState) (named : Named) (result : Result Ending Outcome)
    → ((n : List ℕ) → new.held n ≡ old.held n)
    → new.faults ≡ old.faults
    → IsReadFrom tells (old.held info.file.now) named
    → InformsOf named info.budget result
    → Decides tells (asked_info info) old new result
informs tells info old new named (Ok ending) files clean read is =
    let rows = is.rows in
    record {
      files = λ t n other. files n;
      left = λ t words asks. subst (Leaves old.held new.held words) (sym rows.0) files;
      right = λ t words asks. subst (IsRight old.held words) (sym rows.0) (record {
        file_name = info.file.now;
        budget = info.budget;
        asks = asks;
        netlist = netlist_of read.circuit named;
        there = read.held t;
      });
      by_words = λ words asks. subst (FollowsWords words) (sym rows.0) (follows_files words Informed (inr (inl (info.file.now, inl (info.budget, asks)))) (λ e. cc) (λ number account e. cc));
      sound = λ t words asks. subst (IsSoundAnswer old.held words) (sym rows.0) (record { matches = λ matching e. cc; refuses = λ e. cc });
      report = λ words asks. inr (inr (
        rows.0,
        record {
          file_name = info.file.now;
          budget = info.budget;
          asks = asks;
          circuit = read.circuit;
          named = named;
          there = read.held;
          is = rows.1 read.circuit read.computes read.numbered;
        },
      ));
      ending = subst IsEnding (sym rows.0) (record { asked = λ e. cc; read = λ e. cc; unwritten = λ e. cc });
      early = tt;
      last = none_failed old new clean;
      failed = λ e. cc;
      unwritten = λ e. cc;
    }
informs tells info old new named (Err o) files clean read is =
    stopped tells (asked_info info) old new (Err o) o tt refl files
    (λ t words asks. stop_right old.held words info.file.now info.budget named.graph asks (record { netlist = netlist_of read.circuit named; holds = read.held t; numbered = read.numbered }) o is.stopped)
    (stop_line (with_itself named.graph) info.budget o is.stopped)
    (none_failed old new clean)
    (λ e. absurd ((no_fault (with_itself named.graph) info.budget o is.stopped).0 e))
