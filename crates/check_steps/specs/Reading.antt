-- What reading a netlist comes to.
use Rattle.std.specs.Prelude.{◌≡◌, ◌≢◌, ℕ, ◌≤◌, Bool, IsTrue, List, length, Option, Result, Err, IfOk, IfErr, OnOk}
use Rattle.circuits.specs.Circuits.{Circuit}
use Rattle.circuits.specs.Functions.{Computes}
use Rattle.circuits.specs.Levels.{IsAcyclic, IsOrderOf}
use Rattle.circuits.specs.Netlists.{Net}
use Rattle.net_core.specs.Limits.{most_ports}
use Rattle.query_core.specs.Ledgers.{Ledgered}
use Rattle.shelf_core.specs.Fault.{NoCallFollows, Rose}
use Rattle.shelf_core.specs.State.{ShelfState, Closed}
use Rattle.net_file.specs.declared.named.Named.{Named}
use Rattle.check_steps.specs.Circuits.{IsCircuit, IsCircuitFault}
use Rattle.check_steps.specs.Held.{Netlist, HasNetlist}
use Rattle.check_steps.specs.Ends.{EndsAt}
use Rattle.check_steps.specs.Lines.{IsOneLine}
use Rattle.check_steps.specs.declared.outcome.Which.{Which}
use Rattle.check_steps.specs.declared.outcome.Outcome.{Outcome}
use Rattle.check_steps.specs.declared.outcome.Outcome.TheVariants.{AcceptedRefusal, NoMatching, Usage, Malformed, Made, Restored, Trimmed, Converted}
use Rattle.check_steps.specs.declared.outcome.Outcome.TheVariants.{Flattened, Swept, Tried, ReadFault, WriteFault, Memory}

-- an outcome that ends a run early: it has a line, and is no answer and none of the words alone
pub record IsEarly (outcome : Outcome) : Type 0 where
  pub line : IsOneLine outcome
  pub no_refusal : outcome ≢ AcceptedRefusal
  pub no_match : outcome ≢ NoMatching
  pub no_pair : outcome ≢ Made
  pub no_netlist : (gates : ℕ) → outcome ≢ Restored gates
  pub untrimmed : (before after : ℕ) → outcome ≢ Trimmed before after
  pub unconverted : (from to records : ℕ) → outcome ≢ Converted from to records
  pub unflattened : (models instances gates : ℕ) → outcome ≢ Flattened models instances gates
  pub unswept : (before after : ℕ) (left : Option Ledgered) → outcome ≢ Swept before after left
  pub no_trial : (number : ℕ) (account : List ℕ) → outcome ≢ Tried number account
  pub asked : outcome ≢ Usage

-- an outcome that comes of the words alone, or of a write, is none of a netlist that is read
pub record IsOfReading (outcome : Outcome) : Type 0 where
  pub early : IsEarly outcome
  pub unwritten : outcome ≢ WriteFault

-- what an outcome says of the bytes of a file that is no netlist
abbrev pub IsStopOf : Which → List ℕ → Outcome → Type 0
IsStopOf file bytes (Malformed which kind at) = (which ≡ file) × IsCircuitFault bytes kind at
IsStopOf file bytes Memory = Unit {0}
IsStopOf file bytes other = ⊥

-- The bytes were read as this graph with these names of its ports: the graph computes the netlist that the file is.
pub record ReadAs (bytes : List ℕ) (graph : Net) (input_names output_names : List (List ℕ)) : Type 0 where
  pub circuit : Circuit
  pub is : IsCircuit bytes circuit input_names output_names
  pub computes : Computes graph circuit
  pub numbered : IsOrderOf circuit graph

-- a circuit with the names that its graph was read with
abbrev pub netlist_of : Circuit → Named → Netlist
netlist_of circuit named = record { circuit = circuit; input_names = named.input_names; output_names = named.output_names }

-- What stands under a name was read as this graph with these names.
pub record IsReadFrom (tells : Bool) (content : Option (List ℕ)) (named : Named) : Type 0 where
  pub circuit : Circuit
  pub held : IsTrue tells → HasNetlist content (netlist_of circuit named)
  pub acyclic : IsAcyclic circuit
  pub few : length circuit.outputs ≤ most_ports
  pub computes : Computes named.graph circuit
  pub numbered : IsOrderOf circuit named.graph

-- Reading the netlist under a name, or ending the run where none stands there.
pub record ReadsNetlist (tells : Bool) (file : Which) (name : List ℕ) (old new : ShelfState) (result : Result Named Outcome) : Type 0 where
  -- no file changes, and none is open after an answer
  pub files : (n : List ℕ) → new.held n ≡ old.held n
  pub closed : OnOk result (new.mode ≡ Closed)
  pub found : IfOk result (IsReadFrom tells (old.held name))
  pub ended : IsTrue tells → IfErr result (EndsAt file (old.held name))
  pub reading : IfErr result IsOfReading
  pub clean : OnOk result (new.faults ≡ old.faults)
  pub last : NoCallFollows old new
  pub failed : result ≡ Err ReadFault → Rose old.faults new.faults
