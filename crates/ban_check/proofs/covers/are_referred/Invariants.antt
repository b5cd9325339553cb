use Rattle.std.proofs.Common.{◌≡◌, ◌↔◌, drop}
use Rattle.std.specs.List.{AllZip}
use Rattle.account_core.specs.Covers.{ways, IsReference}
use Rattle.ban_check.proofs.covers.are_referred.Given as goal

abbrev pub invariant-loop-port : goal.invariant-loop-port
invariant-loop-port l =
    (l.references ≡ l.fn.references)
    × (AllZip (IsReference l.fn.references.given l.fn.references.pairs) (ways l.kind l.from l.to) l.refs
    ↔ AllZip (IsReference l.fn.references.given l.fn.references.pairs) (ways l.kind (drop l.port-index l.from) l.to) l.left)
