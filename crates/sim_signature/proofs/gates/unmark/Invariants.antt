-- No mark is left of the signals so far.
use Rattle.std.proofs.Common.{ℕ, ◌<◌, ◌≡◌, false, length}
use Rattle.circuits.specs.Literals.{bit}
use Rattle.sim_signature.proofs.gates.unmark.Given as goal

abbrev pub invariant-loop-s : goal.invariant-loop-s
invariant-loop-s l = ((k : ℕ) → k < l.s → bit l.marks k ≡ false) × (length l.marks ≡ length l.initial.marks)
