-- A file that was read is a netlist, or ends the run.
use Rattle.std.proofs.Common.{◌≡◌, ℕ, ◌≤◌, Bool, IsTrue, List, length, Option, Some, Result, Ok, Err, IfOk, IfErr, refl, sym, subst}
use Rattle.check_steps.specs.Ends.{EndsAt}
use Rattle.net_file.specs.declared.named.Named.{Named}
use Rattle.shelf_core.proofs.FaultLemmas.{none_failed}
use Rattle.shelf_core.specs.State.{ShelfState, Closed}
use Rattle.check_steps.specs.Reading.{ReadAs, IsOfReading, IsStopOf, ReadsNetlist}
use Rattle.check_steps.specs.Stops.{outcome_of}
use Rattle.check_steps.specs.declared.files.ReadStop.{ReadStop}
use Rattle.check_steps.specs.declared.files.ReadStop.TheVariants as stop
use Rattle.check_steps.proofs.CircuitLemmas.{few_ports, circuit_acyclic}
use Rattle.check_steps.proofs.EndLemmas.{of_reading}
use Rattle.check_steps.specs.declared.outcome.Which.{Which}
use Rattle.check_steps.specs.declared.outcome.Outcome.{Outcome}
use Rattle.check_steps.specs.declared.outcome.Outcome.TheVariants.{Malformed, ReadFault, Memory}

pub stop_reading : (s : ReadStop) → IsOfReading (outcome_of s)
stop_reading stop.ReadFault = of_reading ReadFault tt
stop_reading stop.Memory = of_reading Memory tt

pub stop_is : (s : ReadStop) → outcome_of s ≡ ReadFault → s ≡ stop.ReadFault
stop_is stop.ReadFault e = refl
stop_is stop.Memory e = cc

-- what the bytes of a file that is no netlist end the run with
stop_ends : (file : Which) (content : Option (List ℕ)) (bytes : List ℕ) → content ≡ Some bytes → length bytes ≤ 67108864 → (o : Outcome) → IsStopOf file bytes o → EndsAt file content o
stop_ends file content bytes there short (Malformed which kind at) fact = (fact.0, record { bytes = bytes; there = there; short = short; is = fact.1 })
stop_ends file content bytes there short Memory fact = tt
stop_ends file content bytes there short other fact = absurd fact

stop_is_of_reading : (file : Which) (bytes : List ℕ) (o : Outcome) → IsStopOf file bytes o → IsOfReading o
stop_is_of_reading file bytes (Malformed which kind at) fact = of_reading (Malformed which kind at) tt
stop_is_of_reading file bytes Memory fact = of_reading Memory tt
stop_is_of_reading file bytes other fact = absurd fact

-- a file of few bytes was read
reads_same : (tells : Bool) (file : Which) (name : List ℕ) (old new : ShelfState) (bytes : List ℕ) (result : Result Named Outcome) → ((n : List ℕ) → new.held n ≡ old.held n) → new.mode ≡ Closed → new.faults ≡ old.faults → (IsTrue tells → (old.held name ≡ Some bytes) × (length bytes ≤ 67108864)) → IfOk result (λ named. ReadAs bytes named.graph named.input_names named.output_names) → IfErr result (IsStopOf file bytes) → ReadsNetlist tells file name old new result
reads_same tells file name old new bytes (Ok named) files closed clean found is stop = record {
  files = files;
  closed = closed;
  found = record {
    circuit = is.circuit;
    held = λ t. record { bytes = bytes; there = (found t).0; short = (found t).1; is = is.is };
    acyclic = circuit_acyclic bytes is.circuit named.input_names named.output_names is.is;
    few = (few_ports bytes is.circuit named.input_names named.output_names is.is).1;
    computes = is.computes;
    numbered = is.numbered;
  };
  ended = λ t. tt;
  reading = tt;
  clean = clean;
  last = none_failed old new clean;
  failed = λ e. cc;
}
reads_same tells file name old new bytes (Err o) files closed clean found is stop = record {
  files = files;
  closed = tt;
  found = tt;
  ended = λ t. stop_ends file (old.held name) bytes (found t).0 (found t).1 o stop;
  reading = stop_is_of_reading file bytes o stop;
  clean = tt;
  last = none_failed old new clean;
  failed = λ e. let same : o ≡ ReadFault = cc in absurd (subst (IsStopOf file bytes) same stop);
}

pub reads_bytes : (tells : Bool) (file : Which) (name : List ℕ) (old new : ShelfState) (bytes read : List ℕ) (result : Result Named Outcome) → read ≡ bytes → ((n : List ℕ) → new.held n ≡ old.held n) → new.mode ≡ Closed → new.faults ≡ old.faults → (IsTrue tells → (old.held name ≡ Some bytes) × (length bytes ≤ 67108864)) → IfOk result (λ named. ReadAs read named.graph named.input_names named.output_names) → IfErr result (IsStopOf file read) → ReadsNetlist tells file name old new result
reads_bytes tells file name old new bytes read result same files closed clean found is stop =
    reads_same tells file name old new read result files closed clean (λ t. subst (λ b. (old.held name ≡ Some b) × (length b ≤ 67108864)) (sym same) (found t)) is stop
