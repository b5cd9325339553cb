-- The gates of the definitions so far are counted.
use Rattle.std.proofs.Common.{◌≡◌, ◌-◌, ◌^◌, min, take}
use Rattle.std.specs.List.{sum_by}
use Rattle.circuits.specs.Expansion.{def_gates}
use Rattle.net_core.proofs.counting.gate_count.Given as goal

abbrev pub invariant-loop-def : goal.invariant-loop-def
invariant-loop-def l = l.count ≡ min (sum_by def_gates (take l.def-index l.net.defs)) (2 ^ 64 - 1)
