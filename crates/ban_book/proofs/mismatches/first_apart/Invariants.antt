-- None of the pairs so far is apart by the rows.
use Rattle.std.proofs.Common.{◌≡◌, All, take}
use Rattle.circuits.specs.declared.port.Pair.{Pair}
use Rattle.circuits.specs.declared.port.PortKind.TheVariants.{Input}
use Rattle.ban_book.specs.Rows.{AreAlike}
use Rattle.ban_book.proofs.mismatches.first_apart.Given as goal

abbrev pub invariant-loop-input : goal.invariant-loop-input
invariant-loop-input l =
    All (λ (pair : Pair). pair.kind ≡ Input → AreAlike l.output l.first l.second pair) (take l.input-index l.pairs)
