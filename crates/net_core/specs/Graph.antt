-- What each graph is: a netlist in order, of a size that its numbers can count.
use Rattle.std.specs.Prelude.{ℕ, ◌+◌, ◌^◌, ◌<◌, List, length}
use Rattle.circuits.specs.Literals.{EachAt, signal_of}
use Rattle.circuits.specs.Netlists.{Net, IsOrdered, signals_of}
use Rattle.circuits.specs.declared.netlist.Gate.{Gate}

-- A netlist in order whose literals have 32 bits, and so has the number of its outputs.
pub record IsGraph (net : Net) : Type 0 where
  pub ordered : IsOrdered net
  pub signals : signals_of net < 2 ^ 31
  pub outputs : length net.outputs < 2 ^ 32

-- the operands of gate t are below signal first + t
pub record AreInOrder (first : ℕ) (gates : List Gate) : Type 0 where
  pub first_operands : EachAt (λ t gate. signal_of gate.a < first + t) gates
  pub second_operands : EachAt (λ t gate. signal_of gate.b < first + t) gates
