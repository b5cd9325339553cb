-- What `sweep` says of the words and of the files, and what it leaves: a netlist with one signal in place of all that compute
-- the same, or the complement.
use Rattle.std.specs.Prelude.{◌≡◌, ℕ, ◌≤◌, List, length, map, take, Option, None, Some, IfSome}
use Rattle.circuits.specs.Functions.{as_circuit}
use Rattle.circuits.specs.Netlists.{Net}
use Rattle.net_file.specs.declared.named.Named.{Named}
use Rattle.net_print.specs.Files.{aag_text}
use Rattle.print_laws.specs.Printable.{symbol_name}
use Rattle.aiger_reader.specs.Aiger.{IsAiger}
use Rattle.port_moves.specs.Restored.{AreEqual, ComputeTheSame}
use Rattle.query_core.specs.Ledgers.{Ledgered}
use Rattle.sweep.specs.Swept.{IsLeft, IsReduced, IsSwept}
use Rattle.check_steps.specs.Held.{Netlist, HasNetlist, HasGraph}
use Rattle.check_steps.specs.Words.{AsksSweep, SweepRequest}
use Rattle.check_steps.specs.declared.outcome.Outcome.{Outcome}
use Rattle.check_steps.specs.declared.outcome.Outcome.TheVariants as outcome_of

-- A graph was swept within an allowance: this one computes the same, with no more gates. Where nothing is left over, the
-- first of all signals that compute the same, or the complement, stands for them; else the allowance was spent by
-- comparing signals, and wasn't enough.
pub record IsSweepOf (net : Net) (allowance : ℕ) (swept : Net) (left : Option Ledgered) : Type 0 where
  pub equal : AreEqual net swept
  pub no_more : length swept.gates ≤ length net.gates
  pub reduced : IsReduced net swept
  pub whole : left ≡ None → IsSwept net swept
  pub left_is : IfSome left (IsLeft net allowance)

-- The words ask for a netlist to be swept.
pub record IsAskedToSweep (held : List ℕ → Option (List ℕ)) (words : List (List ℕ)) : Type 0 where
  pub request : SweepRequest
  pub asks : AsksSweep words request
  pub netlist : Netlist
  pub there : HasNetlist (held request.file) netlist

-- the outcome is that a netlist was swept
abbrev pub IsOfSweep : Outcome → Type 0
IsOfSweep outcome = (before : ℕ) × (after : ℕ) × (left : Option Ledgered) × (outcome ≡ outcome_of.Swept before after left)

-- The words ask for a netlist to be swept. Its graph has so many gates, and what it is swept to has so many.
pub record IsSweptTo (held : List ℕ → Option (List ℕ)) (words : List (List ℕ)) (before after : ℕ) (left : Option Ledgered) : Type 0 where
  pub request : SweepRequest
  pub asks : AsksSweep words request
  pub graph : Net
  pub there : HasGraph (held request.file) graph
  pub swept : Net
  pub sweep : IsSweepOf graph request.allowance swept left
  pub before_is : before ≡ length graph.gates
  pub after_is : after ≡ length swept.gates

-- The bytes are a graph as the ASCII form of AIGER has it, with the names of a netlist's ports. Read as a file they are a
-- circuit that computes what the netlist does.
pub record IsFileOf (netlist : Netlist) (net : Net) (bytes : List ℕ) : Type 0 where
  pub printed : Named
  pub graph : printed.graph ≡ net
  pub text : bytes ≡ aag_text printed
  pub file : IsAiger bytes (as_circuit net) (map symbol_name netlist.input_names) (map symbol_name netlist.output_names)
  pub same : ComputeTheSame netlist.circuit (as_circuit net)

-- The words ask for a netlist to be swept, and the new file has what it is swept to.
pub record HasSwept (held held_now : List ℕ → Option (List ℕ)) (words : List (List ℕ)) (before after : ℕ) (left : Option Ledgered) : Type 0 where
  pub sweep : IsSweptTo held words before after left
  pub bytes : List ℕ
  pub there : held_now sweep.request.swept ≡ Some bytes
  pub file : IsFileOf sweep.there.netlist sweep.swept bytes

-- The words ask for a netlist to be swept, and the new file has the first bytes of what it is swept to.
pub record HasPartOfSwept (held held_now : List ℕ → Option (List ℕ)) (words : List (List ℕ)) : Type 0 where
  pub before : ℕ
  pub after : ℕ
  pub left : Option Ledgered
  pub sweep : IsSweptTo held words before after left
  pub bytes : List ℕ
  pub file : IsFileOf sweep.there.netlist sweep.swept bytes
  pub count : ℕ
  pub part : held_now sweep.request.swept ≡ Some (take count bytes)

-- the words ask for a netlist to be swept into a file of this name
abbrev pub NamesSwept : List (List ℕ) → List ℕ → Type 0
NamesSwept words name = (request : SweepRequest) × AsksSweep words request × (name ≡ request.swept)
