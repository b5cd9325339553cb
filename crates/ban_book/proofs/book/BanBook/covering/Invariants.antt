use Rattle.std.proofs.Common.{take, All, Some}
use Rattle.ban_book.specs.Chains.{HasNoneWithin}
use Rattle.ban_book.proofs.book.BanBook.covering.Given as goal

abbrev pub invariant-loop-pair : goal.invariant-loop-pair
invariant-loop-pair l = All (λ pair. HasNoneWithin l.self (Some pair) l.pairs) (take l.pair-index l.pairs)
