-- The gates so far are replaced.
use Rattle.std.proofs.Common.{◌≡◌, map, take}
use Rattle.sweep.specs.Merging.{replaced_gate}
use Rattle.sweep.proofs.merging.replaced_gates.Given as goal

abbrev pub invariant-loop-gate : goal.invariant-loop-gate
invariant-loop-gate l = l.others.items ≡ map (replaced_gate l.replacements) (take l.gate-index l.gates)
