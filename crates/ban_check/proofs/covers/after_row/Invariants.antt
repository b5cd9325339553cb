use Rattle.std.proofs.Common.{◌≡◌, ◌↔◌, ◌++◌, List, drop}
use Rattle.std.specs.List.{AllZip}
use Rattle.circuits.specs.declared.port.Pair.{Pair}
use Rattle.account_core.specs.Covers.{IsReference, row}
use Rattle.ban_check.proofs.covers.after_row.Given as goal

abbrev pub invariant-loop-other : goal.invariant-loop-other
invariant-loop-other l =
    (l.references ≡ l.fn.references)
    × ((more : List Pair)
    → (AllZip (IsReference l.fn.references.given l.fn.references.pairs) (row l.kind l.port l.to ++ more) l.refs
    ↔ AllZip (IsReference l.fn.references.given l.fn.references.pairs) (row l.kind l.port (drop l.other-index l.to) ++ more) l.left))
