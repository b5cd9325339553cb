-- The gates so far read earlier signals.
use Rattle.std.proofs.Common.{ℕ, ◌<◌, ◌+◌, get_or}
use Rattle.circuits.specs.declared.netlist.Gate.{Gate}
use Rattle.circuits.specs.Literals.{signal_of}
use Rattle.circuits.proofs.netlist.operands_are_earlier.Given as goal

abbrev pub invariant-loop-t : goal.invariant-loop-t
invariant-loop-t l =
    (k : ℕ) (d : Gate) → k < l.t → (signal_of (get_or l.gates k d).a < l.first_gate + k) × (signal_of (get_or l.gates k d).b < l.first_gate + k)
