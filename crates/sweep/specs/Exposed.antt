-- The netlist that questions about signals are asked of: each signal is an output.
use Rattle.std.specs.Prelude.{◌≡◌, map}
use Rattle.std.specs.List.{range_with_len}
use Rattle.circuits.specs.Literals.{plain_literal}
use Rattle.circuits.specs.Netlists.{Net, signals_of}
use Rattle.net_core.specs.Sides.{Graphs}

-- output s is signal s
abbrev pub exposed : Net → Net
exposed net = record net { outputs = map plain_literal (range_with_len 0 (signals_of net)) }

-- so it is in this netlist
abbrev pub IsExposed : Net → Type 0
IsExposed net = net.outputs ≡ map plain_literal (range_with_len 0 (signals_of net))

-- one netlist on both sides
abbrev pub both : Net → Graphs
both net = record { first = net; second = net }
