use Rattle.std.proofs.Common.{take, All}
use Rattle.account_core.specs.Ports.{Clash}
use Rattle.ban_book.proofs.clash.clashing.Given as goal

abbrev pub invariant-loop-pair : goal.invariant-loop-pair
invariant-loop-pair l = All (λ pair. Clash pair l.way → ⊥) (take l.pair-index l.assigned)
