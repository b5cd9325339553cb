use Rattle.std.proofs.Common.{◌↔◌, drop}
use Rattle.account_core.specs.Tallies.{Ascend}
use Rattle.ban_check.specs.Counted.{AscendFrom}
use Rattle.ban_check.proofs.ascent.ascend.Given as goal

abbrev pub invariant-loop-port : goal.invariant-loop-port
invariant-loop-port l = AscendFrom l.least (drop l.port-index l.ports) ↔ Ascend l.ports
