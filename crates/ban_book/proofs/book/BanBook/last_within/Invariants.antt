use Rattle.ban_book.specs.Chains.{IsWalked}
use Rattle.ban_book.proofs.ChainLemmas.{left}
use Rattle.ban_book.proofs.book.BanBook.last_within.Given as goal

abbrev pub invariant-loop-next : goal.invariant-loop-next
invariant-loop-next l = IsWalked l.self-inside.bans.items l.fn.first l.pairs l.next

abbrev pub decreases-loop-next : goal.decreases-loop-next
decreases-loop-next l = left l.next
