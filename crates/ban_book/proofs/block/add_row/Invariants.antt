use Rattle.std.proofs.Common.{◌≡◌, ◌++◌, take}
use Rattle.ban_book.proofs.block.add_row.Given as goal
use Rattle.account_core.specs.Covers.{row}

abbrev pub invariant-loop-port : goal.invariant-loop-port
invariant-loop-port l = l.list.items ≡ l.fn.list.items ++ row l.kind l.from (take l.port-index l.to)
