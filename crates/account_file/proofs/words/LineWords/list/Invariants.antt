use Rattle.std.proofs.Common.{◌≡◌, length}
use Rattle.account_file.specs.Forms.{list_by}
use Rattle.account_file.specs.Texts.{in_front}
use Rattle.account_file.proofs.words.LineWords.list.Given as goal

abbrev pub invariant-loop-items : goal.invariant-loop-items
invariant-loop-items g l = in_front l.items (list_by g.T.Word.read l.self) ≡ list_by g.T.Word.read l.fn.self

abbrev pub decreases-loop-items : goal.decreases-loop-items
decreases-loop-items g l = length l.self
