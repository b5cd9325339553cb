use Rattle.std.proofs.Common.{◌≡◌, ℕ, ◌+◌, length, drop}
use Rattle.claim_core.specs.Formulas.{reaching}
use Rattle.word_sim.specs.Columns.{lane}
use Rattle.sim_signature.proofs.supports.push_gates.Given as goal

abbrev pub invariant-loop-gate : goal.invariant-loop-gate
invariant-loop-gate l = record {
  count : length l.words.items ≡ length l.fn.words.items + l.gate-index;
  lanes : (v : ℕ) → reaching (lane v l.words.items) (drop l.gate-index l.gates) ≡ reaching (lane v l.fn.words.items) l.gates;
}
