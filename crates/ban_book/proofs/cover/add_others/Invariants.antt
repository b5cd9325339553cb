use Rattle.std.proofs.Common.{take}
use Rattle.ban_book.proofs.GatherLemmas.{IsGathering}
use Rattle.ban_book.proofs.cover.add_others.Given as goal

abbrev pub invariant-loop-pair : goal.invariant-loop-pair
invariant-loop-pair l = IsGathering l.assigned l.fn.needed.items l.needed.items l.way (take l.pair-index l.pairs)
