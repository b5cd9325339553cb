-- The gates of the binary AIGER form as they are printed (AIGER 1.9): two deltas each, in groups of seven bits, the
-- lowest first.
use Rattle.std.specs.Prelude.{ℕ, ◌+◌, ◌-◌, ◌*◌, min, max, List, [], ◌∷◌, ◌++◌}
use Rattle.text_core.specs.Groups.{groups}
use Rattle.circuits.specs.declared.netlist.Gate.{Gate}

-- a number of 32 bits has five groups at most
abbrev pub delta_groups : ℕ → List ℕ
delta_groups n = groups 4 n

-- the greater operand of a gate is below its own literal by the first delta, and above the lesser by the second
abbrev pub gate_deltas : ℕ → Gate → List ℕ
gate_deltas variable gate =
    delta_groups (2 * variable - max gate.a.0 gate.b.0)
    ++ delta_groups (max gate.a.0 gate.b.0 - min gate.a.0 gate.b.0)

-- the deltas of gates whose variables begin at `variable`
abbrev pub deltas : ℕ → List Gate → List ℕ
deltas variable [] = []
deltas variable (gate ∷ gates) = gate_deltas variable gate ++ deltas (variable + 1) gates
