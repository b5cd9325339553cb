-- A netlist whose gates have the greater operand first, as the binary form of AIGER has them (AIGER 1.9).
use Rattle.std.specs.Prelude.{max, min, map}
use Rattle.circuits.specs.declared.netlist.Gate.{Gate}
use Rattle.circuits.specs.Netlists.{Net}

-- an AND with its operands exchanged, where the second one is the greater
abbrev pub greater_first : Gate → Gate
greater_first gate = record {
  a = record { 0 = max gate.a.0 gate.b.0 };
  b = record { 0 = min gate.a.0 gate.b.0 };
}

-- the same netlist, with all gates' operands in that order
abbrev pub with_greater_first : Net → Net
with_greater_first net = record { inputs = net.inputs; gates = map greater_first net.gates; outputs = net.outputs }
