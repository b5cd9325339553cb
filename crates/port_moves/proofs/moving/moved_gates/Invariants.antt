-- The gates so far are moved.
use Rattle.std.proofs.Common.{◌≡◌, map, take}
use Rattle.port_moves.specs.Moved.{moved_gate}
use Rattle.port_moves.proofs.moving.moved_gates.Given as goal

abbrev pub invariant-loop-gate : goal.invariant-loop-gate
invariant-loop-gate l = l.moved.items ≡ map (moved_gate l.inputs) (take l.gate-index l.gates)
