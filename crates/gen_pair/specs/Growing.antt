-- Gates of a netlist of 64 inputs that is being made.
use Rattle.std.specs.Prelude.{◌≡◌, ℕ, ◌+◌, ◌<◌, List, length}
use Rattle.circuits.specs.declared.netlist.Lit.{Lit}
use Rattle.circuits.specs.declared.netlist.Gate.{Gate}
use Rattle.circuits.specs.Literals.{signal_of}
use Rattle.net_core.specs.Graph.{AreInOrder}

-- a literal of the constant, an input or one of these gates
abbrev pub IsThere : List Gate → Lit → Type 0
IsThere gates literal = signal_of literal < 65 + length gates

-- Gates in order were added.
pub record Grows (added : ℕ) (old new : List Gate) : Type 0 where
  pub count : length new ≡ length old + added
  pub order : AreInOrder 65 new
