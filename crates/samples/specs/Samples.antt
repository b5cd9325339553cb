-- Netlists in order by the numbers of their literals (the AIGER format).
use Rattle.std.specs.Prelude.{ℕ, List, map}
use Rattle.circuits.specs.declared.netlist.Lit.{Lit}
use Rattle.circuits.specs.declared.netlist.Gate.{Gate}
use Rattle.circuits.specs.Netlists.{Net}

-- the literal with a number
abbrev pub literal_numbered : ℕ → Lit
literal_numbered number = record { 0 = number }

-- the gate whose operands have these numbers
abbrev pub gate_numbered : ℕ × ℕ → Gate
gate_numbered operands = record { a = literal_numbered operands.0; b = literal_numbered operands.1 }

-- the netlist of n inputs, of these gates and of these outputs
abbrev pub net_numbered : ℕ → List (ℕ × ℕ) → List ℕ → Net
net_numbered inputs gates outputs =
    record { inputs = inputs; gates = map gate_numbered gates; outputs = map literal_numbered outputs }
