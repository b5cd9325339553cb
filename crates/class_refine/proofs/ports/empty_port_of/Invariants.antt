use Rattle.std.proofs.Common.{ℕ, ◌<◌}
use Rattle.class_refine.specs.Stable.{HasLeft}
use Rattle.class_refine.proofs.ports.empty_port_of.Given as goal

abbrev pub invariant-loop-number : goal.invariant-loop-number
invariant-loop-number l = (port : ℕ) → port < l.number → HasLeft l.domains l.side l.kind port
