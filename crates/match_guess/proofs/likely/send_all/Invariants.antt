use Rattle.std.proofs.Common.{◌≡◌, length}
use Rattle.match_guess.proofs.likely.send_all.Given as goal

abbrev pub invariant-loop-from : goal.invariant-loop-from
invariant-loop-from l = record {
  columns : length l.sent.columns ≡ length l.fn.sent.columns;
  words : l.sent.words ≡ l.fn.sent.words;
}
