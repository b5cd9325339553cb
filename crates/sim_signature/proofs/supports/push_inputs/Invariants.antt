use Rattle.std.proofs.Common.{◌≡◌, ℕ, ◌+◌, ◌<◌, ◌==◌, ◌++◌, length, map}
use Rattle.std.specs.List.{range_with_len}
use Rattle.word_sim.specs.Columns.{lane}
use Rattle.sim_signature.proofs.supports.push_inputs.Given as goal

abbrev pub invariant-loop-input : goal.invariant-loop-input
invariant-loop-input l = record {
  lanes : (v : ℕ) → v < 64 → lane v l.words.items ≡ lane v l.fn.words.items ++ map (λ k. k == l.first + v) (range_with_len 0 l.input);
  count : length l.words.items ≡ length l.fn.words.items + l.input;
}
