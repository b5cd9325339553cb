use Rattle.std.proofs.Common.{◌≡◌, length}
use Rattle.sim_patterns.proofs.vectors.fill.Given as goal

abbrev pub invariant-loop-input : goal.invariant-loop-input
invariant-loop-input l = record {
  columns : length l.table.columns ≡ l.inputs;
  words : l.table.words ≡ l.fn.table.words;
}
