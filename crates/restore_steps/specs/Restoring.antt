-- What writing a netlist with the ports of another one does.
use Rattle.std.specs.Prelude.{◌≡◌, ◌≢◌, ◌⊎◌, ℕ, Bool, IsTrue, List, length, map, Some, Result, Err, IfOk, IfErr, OnErr}
use Rattle.net_core.specs.Graph.{IsGraph}
use Rattle.net_file.specs.declared.named.Named.{Named}
use Rattle.net_print.specs.Files.{aig_text}
use Rattle.print_laws.specs.Printable.{symbol_name}
use Rattle.port_moves.specs.Restored.{AreEqual}
use Rattle.shelf_core.specs.Fault.{NoCallFollows, Rose}
use Rattle.shelf_core.specs.State.{ShelfState}
use Rattle.check_steps.specs.Lines.{line_of}
use Rattle.check_steps.specs.declared.outcome.Ending.{Ending}
use Rattle.check_steps.specs.declared.outcome.Outcome.{Outcome}
use Rattle.check_steps.specs.declared.outcome.Outcome.TheVariants.{Restored, WriteFault}
use Rattle.run_steps.specs.Steps.{IsUnwritten}
use Rattle.run_steps.specs.Writing.{HasFirst}

-- A netlist has the ports of a first one, with its names as symbols are printed, computes what it does, and has as many
-- gates as a second one.
pub record HasFirstPorts (first second restored : Named) : Type 0 where
  pub equal : AreEqual first.graph restored.graph
  pub sound : IsGraph restored.graph
  pub gates : length restored.graph.gates ≡ length second.graph.gates
  pub input_names : restored.input_names ≡ map symbol_name first.input_names
  pub output_names : restored.output_names ≡ map symbol_name first.output_names

-- Writing the second of two netlists with the first one's ports, under a name.
pub record Restores (tells : Bool) (first second : Named) (name : List ℕ) (old new : ShelfState)
    (result : Result Ending Outcome) : Type 0 where
  pub others : IsTrue tells → (n : List ℕ) → n ≢ name → new.held n ≡ old.held n
  pub answer : IfOk result (λ ending. (restored : Named)
      × HasFirstPorts first second restored
      × (ending.outcome ≡ Restored (length restored.graph.gates))
      × (ending.report.items ≡ line_of ending.outcome)
      × (IsTrue tells → new.held name ≡ Some (aig_text restored)))
  pub stopped : IfErr result IsUnwritten
  -- after a refusal the file is as it was, or has a first part of the netlist
  pub part : IsTrue tells → OnErr result ((new.held name ≡ old.held name)
      ⊎ ((restored : Named) × HasFirstPorts first second restored × HasFirst (aig_text restored) (new.held name)))
  pub last : NoCallFollows old new
  pub failed : result ≡ Err WriteFault → Rose old.faults new.faults
