use Rattle.std.proofs.Common.{◌≡◌, ◌++◌, take}
use Rattle.hier_blif.proofs.names.add_words.Given as goal

abbrev pub invariant-loop-word : goal.invariant-loop-word
invariant-loop-word l = l.words.items ≡ l.initial.words.items ++ take l.word-index l.from
