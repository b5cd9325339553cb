-- What writing an account or a netlist does that is made of another one.
use Rattle.std.specs.Prelude.{◌≡◌, ◌≢◌, ◌⊎◌, ℕ, Bool, IsTrue, List, length, map, Option, Some, Result, Err, IfOk, IfErr, OnOk, OnErr}
use Rattle.net_core.specs.Graph.{IsGraph}
use Rattle.net_core.specs.Sides.{Graphs}
use Rattle.net_file.specs.declared.named.Named.{Named}
use Rattle.net_print.specs.Files.{aag_text}
use Rattle.hier_blif.specs.declared.fault.HierFault.{HierFault}
use Rattle.hier_blif.specs.Hierarchies.{IsHierFault, ReadAs}
use Rattle.net_file.specs.declared.named.Named.{Named}
use Rattle.net_print.specs.Files.{aag_text}
use Rattle.print_laws.specs.Printable.{symbol_name}
use Rattle.query_core.specs.Ledgers.{Ledgered}
use Rattle.shelf_core.specs.Fault.{NoCallFollows, Rose}
use Rattle.shelf_core.specs.State.{ShelfState}
use Rattle.account_file.specs.declared.fault.RecordFault.{RecordFault}
use Rattle.account_check.specs.Verdicts.{IsAccepted as Proves, IsRejected as IsBadAt}
use Rattle.account_check.specs.declared.verdict.Verdict.{Verdict}
use Rattle.account_check.specs.declared.verdict.Why.{Why}
use Rattle.account_check.specs.declared.verdict.Why.TheVariants.{Form}
use Rattle.account_trim.specs.declared.trimming.Trimmed.{Trimmed as Left}
use Rattle.account_trim.specs.Trims.{IsTrimmed}
use Rattle.account_convert.specs.declared.conversion.Converted.{Converted as Other}
use Rattle.account_convert.specs.Conversions.{IsConverted, IsFaultAt}
use Rattle.check_steps.specs.Lines.{line_of}
use Rattle.check_steps.specs.declared.outcome.Ending.{Ending}
use Rattle.check_steps.specs.declared.outcome.Outcome.{Outcome}
use Rattle.check_steps.specs.declared.outcome.Outcome.TheVariants.{BadHierarchy, Converted, Flattened, Rejected, Swept, Trimmed, WriteFault}
use Rattle.run_steps.specs.Make.{IsCutFrom}
use Rattle.run_steps.specs.Steps.{IsUnwritten}
use Rattle.run_steps.specs.Sweep.{IsSweepOf}
use Rattle.run_steps.specs.Writing.{HasFirst}

-- Writing a text under a name, and ending the run by an outcome where it was written.
pub record EndsWritten (tells : Bool) (outcome : Outcome) (text name : List ℕ) (old new : ShelfState)
    (result : Result Ending Outcome) : Type 0 where
  pub others : IsTrue tells → (n : List ℕ) → n ≢ name → new.held n ≡ old.held n
  pub same : IfOk result (λ ending. ending.outcome ≡ outcome)
  pub line : IfOk result (λ ending. ending.report.items ≡ line_of outcome)
  pub whole : IsTrue tells → OnOk result (new.held name ≡ Some text)
  pub stopped : IfErr result IsUnwritten
  pub part : IsTrue tells → OnErr result (IsCutFrom text (old.held name) (new.held name))
  pub last : NoCallFollows old new
  pub failed : result ≡ Err WriteFault → Rose old.faults new.faults

-- Making an account or a netlist of another one, and writing it under a name: an outcome and the bytes that it speaks of,
-- or an outcome that says why there are none.
pub record Rewrites (Makes : Outcome → List ℕ → Type 0) (Refuses : Outcome → Type 0) (tells : Bool) (name : List ℕ)
    (old new : ShelfState) (result : Result Ending Outcome) : Type 0 where
  pub others : IsTrue tells → (n : List ℕ) → n ≢ name → new.held n ≡ old.held n
  -- the bytes were written, or an outcome says why there are none, and no file changes
  pub answer : IfOk result (λ ending.
      ((bytes : List ℕ) × Makes ending.outcome bytes × (IsTrue tells → new.held name ≡ Some bytes))
      ⊎ (Refuses ending.outcome × ((n : List ℕ) → new.held n ≡ old.held n)))
  pub line : IfOk result (λ ending. ending.report.items ≡ line_of ending.outcome)
  pub stopped : IfErr result IsUnwritten
  -- after a refused write the file is as it was, or has a first part of the bytes
  pub part : IsTrue tells → OnErr result ((new.held name ≡ old.held name)
      ⊎ ((outcome : Outcome) × (bytes : List ℕ) × Makes outcome bytes × HasFirst bytes (new.held name)))
  pub last : NoCallFollows old new
  pub failed : result ≡ Err WriteFault → Rose old.faults new.faults

-- An account of two graphs proves something, and these bytes are what is left of it; the outcome says how many records it
-- had, and how many are left.
pub record IsWhatIsLeft (graphs : Graphs) (account : List ℕ) (outcome : Outcome) (bytes : List ℕ) : Type 0 where
  pub told : Verdict
  pub accepted : Proves graphs account told
  pub trimmed : Left
  pub is : IsTrimmed graphs account trimmed
  pub outcome_is : outcome ≡ Trimmed trimmed.before trimmed.after
  pub bytes_are : bytes ≡ trimmed.bytes.items

-- the outcome says the first bad line of an account of two graphs
abbrev pub IsBadLine : Graphs → List ℕ → Outcome → Type 0
IsBadLine graphs account outcome = (line : ℕ) × (why : Why) × (outcome ≡ Rejected line why) × IsBadAt graphs account line why

-- These bytes are an account in the other version; the outcome says the versions, and how many records it had.
pub record IsInOtherVersion (account : List ℕ) (outcome : Outcome) (bytes : List ℕ) : Type 0 where
  pub converted : Other
  pub is : IsConverted account converted
  pub outcome_is : outcome ≡ Converted converted.from converted.to converted.records
  pub bytes_are : bytes ≡ converted.bytes

-- the outcome says the first fault of form of an account
abbrev pub IsFaultOfForm : List ℕ → Outcome → Type 0
IsFaultOfForm account outcome =
    (line : ℕ) × (fault : RecordFault) × (outcome ≡ Rejected line (Form fault)) × IsFaultAt account line fault

-- A file of models is flattened, and these bytes are the netlist; the outcome says how many models the file has, how many
-- instances the netlist is made of, and how many gates.
pub record IsFlatIn (file : List ℕ) (outcome : Outcome) (bytes : List ℕ) : Type 0 where
  pub flat : Named
  pub models : ℕ
  pub instances : ℕ
  pub is : ReadAs file flat.graph flat.input_names flat.output_names models instances
  pub outcome_is : outcome ≡ Flattened models instances (length flat.graph.gates)
  pub bytes_are : bytes ≡ aag_text flat

-- the outcome says the first fault of a file of models
abbrev pub IsFaultOfModels : List ℕ → Outcome → Type 0
IsFaultOfModels file outcome = (fault : HierFault) × (outcome ≡ BadHierarchy fault) × IsHierFault file fault

-- A netlist is swept within an allowance, and these bytes are what it is swept to, with its ports' names as symbols are
-- printed; the outcome says how many gates there were, how many there are, and what is left over.
pub record IsSweptIn (netlist : Named) (allowance : ℕ) (outcome : Outcome) (bytes : List ℕ) : Type 0 where
  pub printed : Named
  pub sound : IsGraph printed.graph
  pub input_names : printed.input_names ≡ map symbol_name netlist.input_names
  pub output_names : printed.output_names ≡ map symbol_name netlist.output_names
  pub left : Option Ledgered
  pub sweep : IsSweepOf netlist.graph allowance printed.graph left
  pub outcome_is : outcome ≡ Swept (length netlist.graph.gates) (length printed.graph.gates) left
  pub bytes_are : bytes ≡ aag_text printed

-- no outcome says why there are no bytes
abbrev pub Never : Outcome → Type 0
Never outcome = ⊥
