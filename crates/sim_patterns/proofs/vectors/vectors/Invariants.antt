use Rattle.std.proofs.Common.{◌≡◌, length}
use Rattle.sim_patterns.proofs.vectors.vectors.Given as goal

abbrev pub invariant-loop-word : goal.invariant-loop-word
invariant-loop-word l = record {
  columns : length l.table.columns ≡ l.inputs;
  words : l.table.words ≡ l.words;
}
