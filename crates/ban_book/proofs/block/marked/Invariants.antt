use Rattle.std.specs.Prelude.{◌<◌, All}
use Rattle.account_core.specs.Tallies.{Ascend}
use Rattle.ban_book.proofs.block.marked.Given as goal

abbrev pub invariant-loop-port : goal.invariant-loop-port
invariant-loop-port l = Ascend l.ports × All (λ port. port < l.port) l.ports
