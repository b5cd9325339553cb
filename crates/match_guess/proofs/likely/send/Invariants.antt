use Rattle.std.proofs.Common.{◌≡◌, length}
use Rattle.match_guess.proofs.likely.send.Given as goal

abbrev pub invariant-loop-word : goal.invariant-loop-word
invariant-loop-word l = record {
  columns : length l.sent.columns ≡ length l.fn.sent.columns;
  words : l.sent.words ≡ l.fn.sent.words;
}
