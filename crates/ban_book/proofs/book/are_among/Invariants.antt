use Rattle.std.proofs.Common.{take, All}
use Rattle.std.specs.Prelude.{Contains}
use Rattle.ban_book.proofs.book.are_among.Given as goal

abbrev pub invariant-loop-other : goal.invariant-loop-other
invariant-loop-other l = All (Contains l.pairs) (take l.other-index l.others)
