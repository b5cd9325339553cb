-- The signal is unlike those of its class with which it was compared.
use Rattle.std.proofs.Common.{◌≡◌, suc, ℕ, Option, None, Some}
use Rattle.sweep.specs.Sweeping.{IsBetween}
use Rattle.sweep.proofs.sweeping.Sweep.equal_to.Given as goal

-- how many signals there are up to the next one
abbrev up_to : Option ℕ → ℕ
up_to None = 0
up_to (Some p) = suc p

abbrev pub invariant-loop-next : goal.invariant-loop-next
invariant-loop-next l = IsBetween l.exposed l.self l.signal l.ledger l.next × (l.ledger.budget ≡ l.fn.ledger.budget)

abbrev pub decreases-loop-next : goal.decreases-loop-next
decreases-loop-next l = up_to l.next
