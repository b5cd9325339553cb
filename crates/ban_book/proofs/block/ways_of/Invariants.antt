use Rattle.std.proofs.Common.{◌≡◌, take}
use Rattle.account_core.specs.Covers.{ways}
use Rattle.ban_book.proofs.block.ways_of.Given as goal

abbrev pub invariant-loop-port : goal.invariant-loop-port
invariant-loop-port l = l.list.items ≡ ways l.kind (take l.port-index l.from) l.to
