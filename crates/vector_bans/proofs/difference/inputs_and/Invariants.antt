use Rattle.std.proofs.Common.{◌≡◌, map}
use Rattle.std.specs.List.{range_with_len}
use Rattle.circuits.specs.declared.port.PortKind.TheVariants.{Input}
use Rattle.vector_bans.specs.Differences.{pair_from}
use Rattle.vector_bans.proofs.difference.inputs_and.Given as goal

abbrev pub invariant-loop-port : goal.invariant-loop-port
invariant-loop-port l = l.pairs.items ≡ map (pair_from Input l.matching.inputs) (range_with_len 0 l.port)
