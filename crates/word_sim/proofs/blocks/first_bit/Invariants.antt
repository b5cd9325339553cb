-- The words so far have no bit.
use Rattle.std.proofs.Common.{ℕ, ◌<◌, ◌≡◌}
use Rattle.word_sim.specs.Columns.{word_of}
use Rattle.word_sim.proofs.blocks.first_bit.Given as goal

abbrev pub invariant-loop-word : goal.invariant-loop-word
invariant-loop-word l = (w : ℕ) → w < l.word → word_of w l.block ≡ 0
